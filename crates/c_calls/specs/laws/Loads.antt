-- Loads, by the results of reading a program.
use Rattle.std.proofs.Common.{◌≡◌, ◌⊎◌, inl, inr, refl, ap, sym, subst, true≢false}
use Rattle.std.specs.Prelude.{ℕ, List, Option, Result, Ok, Err, IsOk, IfErr}
use Rattle.refusals.specs.Answers.{HasCause, RanOut, out_of_memory}
use Rattle.refusals.specs.declared.place.Place.{Place}
use Rattle.instruction_set.specs.declared.insn.Insn.{Insn}
use Rattle.verifier.specs.Programs.{IsAccepted, IsProgramFault, program_fault_number, program_fault_place}
use Rattle.verifier.specs.declared.program_fault.ProgramFault.{ProgramFault}
use Rattle.upload_store.specs.Programs.{Upload}
use Rattle.c_calls.specs.Answers.{refusal_slot, IsNumbered, IsOutOfMemory}
use Rattle.c_calls.specs.Programs as load

-- running out of memory has no slot
pub no_slot : (n : ℕ) (place : Option Place) → n ≡ out_of_memory → refusal_slot n place ≡ 0
no_slot n place e = rw e refl

program_ran_out : (f : ProgramFault) → program_fault_number f ≡ out_of_memory
    → IsOutOfMemory (program_fault_number f) (refusal_slot (program_fault_number f) (program_fault_place f))
program_ran_out f e = (e, no_slot (program_fault_number f) (program_fault_place f) e)

-- what a fault and a cause say of a refused load
module _ (IsFault : ProgramFault → Type 0) (f : ProgramFault) where
  abbrev n : ℕ
  n = program_fault_number f

  abbrev slot : ℕ
  slot = refusal_slot n (program_fault_place f)

  refusal : HasCause program_fault_number IsFault f → load.IsRefusal IsFault n slot
  refusal (inl cause) = inl (f, cause, (refl, refl))
  refusal (inr e) = inr (program_ran_out f e)

  numbered : {A : Type 0} (fault : ProgramFault) → (r : Result A ProgramFault) → r ≡ Err f
      → (r ≡ Err fault) ⊎ RanOut program_fault_number r → IsNumbered (program_fault_number fault) (program_fault_place fault) n slot ⊎ IsOutOfMemory n slot
  numbered fault (Ok x) e told = absurd (cc)
  numbered fault (Err g) e (inl same) = let equal : f ≡ fault = cc in inl (ap program_fault_number equal, ap (λ (h : ProgramFault). refusal_slot (program_fault_number h) (program_fault_place h)) equal)
  numbered fault (Err g) e (inr out) = let equal : g ≡ f = cc in inr (program_ran_out f (subst (λ (h : ProgramFault). program_fault_number h ≡ out_of_memory) equal out))

  spent : {A : Type 0} (r : Result A ProgramFault) → r ≡ Err f → IsOk r ⊎ RanOut program_fault_number r
      → IsOutOfMemory n slot
  spent (Ok x) e taken = absurd (cc)
  spent (Err g) e (inl ok) = absurd (true≢false (sym ok))
  spent (Err g) e (inr out) = let equal : g ≡ f = cc in program_ran_out f (subst (λ (h : ProgramFault). program_fault_number h ≡ out_of_memory) equal out)

-- a refused load, of bytes that have this code or this fault
pub refused_of : {V A : Type 0} (HasCode : List Insn → Type 0) (IsFault : ProgramFault → Type 0) (IsLoaded : V → Type 0)
    (old : Option V) (r : Result A ProgramFault) (f : ProgramFault) → r ≡ Err f
    → IfErr r (HasCause program_fault_number IsFault)
    → ((code : List Insn) → HasCode code → IsOk r ⊎ RanOut program_fault_number r)
    → ((fault : ProgramFault) → IsFault fault → (r ≡ Err fault) ⊎ RanOut program_fault_number r)
    → load.IsLoadOf HasCode IsFault IsLoaded old old (program_fault_number f)
    (refusal_slot (program_fault_number f) (program_fault_place f))
refused_of {A = A} HasCode IsFault IsLoaded old r f e refused taken told = record {
  answer = inr (refusal IsFault f (subst (λ (x : Result A ProgramFault). IfErr x (HasCause program_fault_number IsFault)) e refused), refl);
  taken = λ code accepted. inr (spent IsFault f r e (taken code accepted), refl);
  reported = λ fault is. (numbered IsFault f fault r e (told fault is), refl);
}

-- a refused load of a resolver
pub load_refused : {A : Type 0} (bytes : List ℕ) (old : Option Upload) (r : Result A ProgramFault) (f : ProgramFault) → r ≡ Err f
    → IfErr r (HasCause program_fault_number (IsProgramFault bytes))
    → ((code : List Insn) → IsAccepted bytes code → IsOk r ⊎ RanOut program_fault_number r)
    → ((fault : ProgramFault) → IsProgramFault bytes fault → (r ≡ Err fault) ⊎ RanOut program_fault_number r)
    → load.IsLoad bytes old old (program_fault_number f) (refusal_slot (program_fault_number f) (program_fault_place f))
load_refused bytes = refused_of (IsAccepted bytes) (IsProgramFault bytes) (load.IsLoadedResolver bytes)

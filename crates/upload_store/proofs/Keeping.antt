-- The refusal that keeping an upload is due, by what the store has.
use Rattle.std.proofs.Common.{◌≡◌, ◌⊎◌, ℕ, ◌<◌, ◌≤◌, nat_lt, Bool, true, false, if◌then◌else◌, Option, Some, None, Result, Err, IfErr, List, ltb-true, refl, sym, ap, subst, ◌∙◌, inl, inr, arith}
use Rattle.std.proofs.lemmas.Bool.{lt-ltb}
use Rattle.std.specs.Cmp.Lexicographic.{pointwise}
use Rattle.std.specs.FinMap as map
use Rattle.refusals.specs.Answers.{HasCause, out_of_memory}
use Rattle.instruction_set.specs.declared.insn.Insn.{Insn}
use Rattle.instruction_set.specs.contracts.insn.InsnPartialEq.TheImpl as insn_eq
use Rattle.instruction_set.specs.laws.SameInsn.{same_code}
use Rattle.upload_store.specs.declared.fault.UploadFault.{UploadFault}
use Rattle.upload_store.specs.declared.fault.UploadFault.TheVariants.{DigestClash, StoreFull}
use Rattle.upload_store.specs.Faults.{upload_fault_number}
use Rattle.upload_store.specs.Programs.{Programs, Upload, max_programs}
use Rattle.upload_store.specs.Uploads.{HasPlace, keep_fault, keep_fault_by}
use Rattle.upload_store.specs.model.Keeping.{IsKeepingFault}

module _ (store : Programs) (upload : Upload) where
  by_kept : (o : Option (List Insn)) → map.get store upload.id ≡ o →
      keep_fault store upload ≡ keep_fault_by (map.len store) upload.code o
  by_kept o h = ap (keep_fault_by (map.len store) upload.code) h

  pub due_same : map.get store upload.id ≡ Some upload.code → keep_fault store upload ≡ None
  due_same h =
      let test = pointwise insn_eq.ghosts.eq upload.code upload.code in
      by_kept (Some upload.code) h
      ∙ ap (λ b. if b then None else Some DigestClash) ((same_code upload.code upload.code test refl).1 refl)

  pub due_clash : (kept : List Insn) → map.get store upload.id ≡ Some kept → (kept ≡ upload.code → ⊥) →
      keep_fault store upload ≡ Some DigestClash
  due_clash kept h differs = by_kept (Some kept) h ∙ by_test (pointwise insn_eq.ghosts.eq kept upload.code) refl
    where
      by_test : (b : Bool) → pointwise insn_eq.ghosts.eq kept upload.code ≡ b →
          (if b then None else Some DigestClash) ≡ Some DigestClash
      by_test true e = absurd (differs ((same_code kept upload.code true (sym e)).0 refl))
      by_test false e = refl

  pub due_full : map.get store upload.id ≡ None → (map.len store < max_programs → ⊥) →
      keep_fault store upload ≡ Some StoreFull
  due_full h full = by_kept None h ∙ by_test (nat_lt (map.len store) max_programs) refl
    where
      by_test : (b : Bool) → nat_lt (map.len store) max_programs ≡ b →
          (if b then None else Some StoreFull) ≡ Some StoreFull
      by_test true e = absurd (full (ltb-true _ _ e))
      by_test false e = refl

  pub due_room : map.get store upload.id ≡ None → map.len store < max_programs → keep_fault store upload ≡ None
  due_room h room =
      by_kept None h ∙ ap (λ b. if b then None else Some StoreFull) (lt-ltb (map.len store) max_programs room)

  -- an upload that is the same has room
  pub due_none : (other : Upload) (count : ℕ) → upload ≡ other → map.get store upload.id ≡ None → count ≡ map.len store
      → count < max_programs → keep_fault store other ≡ None
  due_none other count same h len room =
      subst (λ u. keep_fault store u ≡ None) same (due_room h (subst (λ n. n < max_programs) len room))

  -- where no refusal is due, there is a place
  pub has_place : keep_fault store upload ≡ None → HasPlace store upload.id upload.code
  has_place = by_there (map.get store upload.id) refl
    where
      by_code : (kept : List Insn) (b : Bool) → map.get store upload.id ≡ Some kept →
          pointwise insn_eq.ghosts.eq kept upload.code ≡ b → (if b then None else Some DigestClash) ≡ None →
          HasPlace store upload.id upload.code
      by_code kept true h t e = inl (h ∙ ap Some ((same_code kept upload.code true (sym t)).0 refl))
      by_code kept false h t e = absurd (cc)

      by_room : (b : Bool) → map.get store upload.id ≡ None → nat_lt (map.len store) max_programs ≡ b →
          (if b then None else Some StoreFull) ≡ None → HasPlace store upload.id upload.code
      by_room true h t e = inr (h, ltb-true _ _ t)
      by_room false h t e = absurd (cc)

      by_there : (o : Option (List Insn)) → map.get store upload.id ≡ o →
          keep_fault_by (map.len store) upload.code o ≡ None → HasPlace store upload.id upload.code
      by_there (Some kept) h e = by_code kept (pointwise insn_eq.ghosts.eq kept upload.code) h refl e
      by_there None h e = by_room (nat_lt (map.len store) max_programs) h refl e

  -- the refusal that is due has its cause
  pub due_cause : map.len store ≤ max_programs → (f : UploadFault) → keep_fault store upload ≡ Some f →
      IsKeepingFault store upload.id upload.code f
  due_cause few f = by_there (map.get store upload.id) refl
    where
      by_code : (kept : List Insn) (b : Bool) → map.get store upload.id ≡ Some kept →
          pointwise insn_eq.ghosts.eq kept upload.code ≡ b → (if b then None else Some DigestClash) ≡ Some f →
          IsKeepingFault store upload.id upload.code f
      by_code kept true h t e = absurd (cc)
      by_code kept false h t e =
          let is : DigestClash ≡ f = cc in
          subst (IsKeepingFault store upload.id upload.code) is (
            kept,
            h,
            λ same.
                let t' = (same_code kept upload.code false (sym t)).1 same in absurd (cc),
          )

      by_room : (b : Bool) → map.get store upload.id ≡ None → nat_lt (map.len store) max_programs ≡ b →
          (if b then None else Some StoreFull) ≡ Some f → IsKeepingFault store upload.id upload.code f
      by_room true h t e = absurd (cc)
      by_room false h t e =
          let is : StoreFull ≡ f = cc in
          subst (IsKeepingFault store upload.id upload.code) is (h, full (map.len store) t few)
        where
          full : (n : ℕ) → nat_lt n max_programs ≡ false → n ≤ max_programs → n ≡ max_programs
          full n t few = grind (arith, t, few)

      by_there : (o : Option (List Insn)) → map.get store upload.id ≡ o →
          keep_fault_by (map.len store) upload.code o ≡ Some f → IsKeepingFault store upload.id upload.code f
      by_there (Some kept) h e = by_code kept (pointwise insn_eq.ghosts.eq kept upload.code) h refl e
      by_there None h e = by_room (nat_lt (map.len store) max_programs) h refl e

  pub refused_by : {A : Type 0} (r : Result A UploadFault) (f : UploadFault) → map.len store ≤ max_programs →
      r ≡ Err f → (keep_fault store upload ≡ Some f) ⊎ (upload_fault_number f ≡ out_of_memory) →
      IfErr r (HasCause upload_fault_number (IsKeepingFault store upload.id upload.code))
  refused_by r f few is (inl due) =
      subst (λ x. IfErr x (HasCause upload_fault_number (IsKeepingFault store upload.id upload.code))) (sym is)
      (inl (due_cause few f due))
  refused_by r f few is (inr out) =
      subst (λ x. IfErr x (HasCause upload_fault_number (IsKeepingFault store upload.id upload.code))) (sym is) (inr out)

-- The pass over the rules of structure: which slots are marked.
use Rattle.std.proofs.Common.{◌≡◌, ◌≢◌, ℕ, ◌+◌, ◌<◌, ◌≤◌, Bool, true, false, cond, ◌⊎◌, inl, inr, refl, ap, ◌∙◌, sym, subst, arith, List, length, get_or, replicate, Option, Some, None}
use Rattle.std.specs.Prelude.{IfSome}
use Rattle.std.proofs.lemmas.List.{get_or-set_same, get_or-set_other, get_or-replicate, get_or_past, length-set, length-replicate}
use Rattle.std.proofs.lemmas.Bool.{cases_lt}
use Rattle.instruction_set.specs.Machine.{slots_of, insn_at, slot_count}
use Rattle.instruction_set.specs.declared.insn.Insn.{Insn}
use Rattle.verifier.specs.declared.rule.Rule.{Rule}
use Rattle.verifier.specs.declared.rule.Rule.TheVariants.{Outside, FallsOff}
use Rattle.verifier.specs.Structure.{distance_of, goes_on, leads_to, LeadsTo, HasEdge, MeetsStructure, IsStructured, IsIllStructured}
use Rattle.verifier.specs.model.Edges.{FailsStructure, falls_to, HasEdgeBefore, mark, IsSeen}
use Rattle.verifier.proofs.Tags.{tells}
use Rattle.instruction_set.specs.laws.Places.{some_slots, one_or_two, none_within, insn_within}
use Rattle.verifier.proofs.Pass.{leads_past}

marked_length : (reached : List Bool) (to : Option ℕ) → length (mark reached to) ≡ length reached
marked_length reached None = refl
marked_length reached (Some k) = length-set reached k true

marked_from : (reached : List Bool) (to : Option ℕ) (q : ℕ) → get_or (mark reached to) q false ≡ true
    → (get_or reached q false ≡ true) ⊎ (to ≡ Some q)
marked_from reached None q h = inl h
marked_from reached (Some k) q h =
    elim (tells q k) [
      | inl p ↦ inr (ap Some (sym p.1))
      | inr p ↦ inl (sym (get_or-set_other reached k q true false p.1) ∙ h)
    ]

marked_at : (reached : List Bool) (k q : ℕ) → k ≡ q → q < length reached → get_or (mark reached (Some k)) q false ≡ true
marked_at reached k q e h = ap (λ n. get_or (mark reached (Some n)) q false) e ∙ get_or-set_same reached q true false h

marked_old : (reached : List Bool) (to : Option ℕ) (q : ℕ) → q < length reached → get_or reached q false ≡ true
    → get_or (mark reached to) q false ≡ true
marked_old reached None q l h = h
marked_old reached (Some k) q l h =
    elim (tells q k) [
      | inl p ↦ marked_at reached k q (sym p.1) l
      | inr p ↦ get_or-set_other reached k q true false p.1 ∙ h
    ]

marked_new : (reached : List Bool) (to : Option ℕ) (q : ℕ) → to ≡ Some q → q < length reached
    → get_or (mark reached to) q false ≡ true
marked_new reached to q e l = rw e (get_or-set_same reached q true false l)

-- where an edge leads, it is marked
falls_is : (slot : ℕ) (i : Insn) (q : ℕ) → falls_to slot i ≡ Some q → LeadsTo slot i q
falls_is slot i q e = of_test (goes_on i) e refl
  where
    of_test : (b : Bool) → cond b (Some (slot + slots_of i)) None ≡ Some q → goes_on i ≡ b → LeadsTo slot i q
    of_test true e g = inl (g, (cc))
    of_test false e g = absurd (cc)

falls_some : (slot : ℕ) (i : Insn) (q : ℕ) → goes_on i ≡ true → slot + slots_of i ≡ q → falls_to slot i ≡ Some q
falls_some slot i q g e = rw g (ap Some e)

-- edges lead forward
forward : (slot : ℕ) (i : Insn) (to : ℕ) → LeadsTo slot i to → slot < to
forward slot i to (inl p) = let some = some_slots i in let e : slot + slots_of i ≡ to = p.1 in omega arith
forward slot i to (inr e) = let h = leads_past slot to (distance_of i) e in omega arith

edge_before : (code : List Insn) (end to : ℕ) → to ≤ end → HasEdge code to → HasEdgeBefore code end to
edge_before code end to h e = let f = forward e.slot e.insn to e.leads in
    record { slot = e.slot; is_before = omega arith; insn = e.insn; is_at = e.is_at; leads = e.leads }

pub reached_by : (code : List Insn) (n : ℕ) (reached : List Bool) → IsSeen code n reached → n < slot_count code
    → get_or reached n false ≡ false → (n ≡ 0) ⊎ HasEdge code n → ⊥
reached_by code n reached seen h e (inl z) = let t : get_or reached n false ≡ true = seen.complete n h (inl z) in
    absurd (cc)
reached_by code n reached seen h e (inr edge) = let t : get_or reached n false ≡ true =
    seen.complete n h (inr (edge_before code n n (omega arith) edge)) in absurd (cc)

unmarked : (n q : ℕ) → get_or (replicate n false) q false ≡ false
unmarked n q =
    let l : length (replicate n false) ≡ n = length-replicate n false in
    elim (cases_lt q n) [
      | inl h ↦ get_or-replicate n q false false h
      | inr h ↦ get_or_past (replicate n false) q false
          (omega arith)
    ]

-- before the first slot only that slot is marked
pub seen_none : (code : List Insn) (n : ℕ) → slot_count code ≤ n → IsSeen code 0 (mark (replicate n false) (Some 0))
seen_none code n few = record {
  meets = λ slot i rule h. absurd (omega arith);
  sound = λ to h. elim (marked_from (replicate n false) (Some 0) to h) [
    | inl a ↦ let f = unmarked n to in absurd (cc)
    | inr a ↦ inl (cc)
  ];
  complete = λ to h e. elim e [
    | inl z ↦ let l : length (replicate n false) ≡ n = length-replicate n false in
        marked_at (replicate n false) 0 to (sym z) (omega arith)
    | inr edge ↦ let b : edge.slot < 0 = edge.is_before in absurd (omega arith)
  ];
}

-- what is before the next slot is before this one, or here
earlier : (m n : ℕ) → m < n + 1 → (m < n) ⊎ (m ≡ n)
earlier m n h = elim (tells m n) [ inl p ↦ inr p.1 | inr p ↦ let d : m ≢ n = p.1 in inl (omega arith) ]

pub seen_skipped : (code : List Insn) (n : ℕ) (reached : List Bool) → IsSeen code n reached → insn_at code n ≡ None
    → IsSeen code (n + 1) reached
seen_skipped code n reached seen none = record {
  meets = λ slot i rule h is. elim (earlier slot n h) [
    | inl b ↦ seen.meets slot i rule b is
    | inr e ↦ let f : insn_at code slot ≡ None = ap (insn_at code) e ∙ none in absurd (cc)
  ];
  sound = seen.sound;
  complete = λ to h e. seen.complete to h (elim e [
    | inl z ↦ inl z
    | inr edge ↦ elim (earlier edge.slot n edge.is_before) [
      | inl b ↦ inr (record {
        slot = edge.slot;
        is_before = b;
        insn = edge.insn;
        is_at = edge.is_at;
        leads = edge.leads;
      })
      | inr e ↦ let f : insn_at code edge.slot ≡ None = ap (insn_at code) e ∙ none in
          let g : insn_at code edge.slot ≡ Some edge.insn = edge.is_at in absurd (cc)
    ]
  ]);
}

pub leads_inside : (code : List Insn) (n : ℕ) (i : Insn) → ((rule : Rule) → MeetsStructure code n i rule) → (k : ℕ)
    → leads_to n i ≡ Some k → k < slot_count code
leads_inside code n i meets k e = let h : IfSome (leads_to n i) (λ to. to < slot_count code) = meets Outside in
    rw e at h

pub falls_inside : (code : List Insn) (n : ℕ) (i : Insn) → ((rule : Rule) → MeetsStructure code n i rule) → (k : ℕ)
    → falls_to n i ≡ Some k → k < slot_count code
falls_inside code n i meets k e =
    elim (falls_is n i k e) [
      | inl p ↦ subst (λ m. m < slot_count code) p.1 (meets FallsOff p.0)
      | inr p ↦ leads_inside code n i meets k p
    ]

leading : (reached : List Bool) (n : ℕ) (i : Insn) (q : ℕ) → q < length reached → LeadsTo n i q
    → get_or (mark (mark reached (falls_to n i)) (leads_to n i)) q false ≡ true
leading reached n i q l (inl p) =
    let m : length (mark reached (falls_to n i)) ≡ length reached = marked_length reached (falls_to n i) in
    marked_old (mark reached (falls_to n i)) (leads_to n i) q (omega arith)
    (marked_new reached (falls_to n i) q (falls_some n i q p.0 p.1) l)
leading reached n i q l (inr e) =
    let m : length (mark reached (falls_to n i)) ≡ length reached = marked_length reached (falls_to n i) in
    marked_new (mark reached (falls_to n i)) (leads_to n i) q e (omega arith)

pub seen_more : (code : List Insn) (n : ℕ) (i : Insn) (reached : List Bool) → slot_count code ≤ length reached
    → IsSeen code n reached → insn_at code n ≡ Some i → ((rule : Rule) → MeetsStructure code n i rule)
    → IsSeen code (n + 1) (mark (mark reached (falls_to n i)) (leads_to n i))
seen_more code n i reached long seen is meets =
    let falls = falls_to n i in
    let leads = leads_to n i in
    let m : length (mark reached falls) ≡ length reached = marked_length reached falls in
    let edge : (q : ℕ) → LeadsTo n i q → HasEdge code q = λ q to. record {
      slot = n;
      insn = i;
      is_at = is;
      leads = to;
    } in
    record {
      meets = λ slot j rule h at. elim (earlier slot n h) [
        | inl b ↦ seen.meets slot j rule b at
        | inr e ↦
            let s : insn_at code slot ≡ Some i = ap (insn_at code) e ∙ is in
            let f : i ≡ j = (cc) in
            subst (λ k. MeetsStructure code k j rule) (sym e) (subst (λ k. MeetsStructure code n k rule) f (meets rule))
      ];
      sound = λ to h. elim (marked_from (mark reached falls) leads to h) [
        | inl a ↦ elim (marked_from reached falls to a) [
          | inl b ↦ seen.sound to b
          | inr b ↦ inr (edge to (falls_is n i to b))
        ]
        | inr a ↦ inr (edge to (inr a))
      ];
      complete = λ to h e.
          let old : get_or reached to false ≡ true → get_or (mark (mark reached falls) leads) to false ≡ true =
          λ (t : get_or reached to false ≡ true). marked_old (mark reached falls) leads to (omega arith)
          (marked_old reached falls to (omega arith) t) in
          elim e [
            | inl z ↦ old (seen.complete to h (inl z))
            | inr k ↦ elim (earlier k.slot n k.is_before) [
              | inl b ↦ old (seen.complete to h (inr (record {
                slot = k.slot;
                is_before = b;
                insn = k.insn;
                is_at = k.is_at;
                leads = k.leads;
              })))
              | inr b ↦
                  let s : insn_at code k.slot ≡ Some i = ap (insn_at code) b ∙ is in
                  let t : insn_at code k.slot ≡ Some k.insn = k.is_at in
                  let f : k.insn ≡ i = (cc) in
                  leading reached n i to (omega arith) (subst (λ x. LeadsTo x i to) b
                  (subst (λ x. LeadsTo k.slot x to) f k.leads))
            ]
          ];
    }

-- over all slots of an instruction
pub seen_insn : (code : List Insn) (n : ℕ) (i : Insn) (reached : List Bool) → slot_count code ≤ length reached
    → IsSeen code n reached
    → insn_at code n ≡ Some i → ((rule : Rule) → MeetsStructure code n i rule)
    → IsSeen code (n + slots_of i) (mark (mark reached (falls_to n i)) (leads_to n i))
seen_insn code n i reached long seen is meets =
    let after = mark (mark reached (falls_to n i)) (leads_to n i) in
    let one : IsSeen code (n + 1) after = seen_more code n i reached long seen is meets in
    elim (one_or_two i) [
      | inl e ↦ subst (λ m. IsSeen code (n + m) after) (sym e) one
      | inr e ↦
          let two : n + 1 + 1 ≡ n + slots_of i = omega arith in
          subst (λ m. IsSeen code m after) two (seen_skipped code (n + 1) after one
          (none_within code n (n + 1) i is (omega arith) (omega arith)))
    ]

pub ill : (code : List Insn) (n : ℕ) (i : Insn) (reached : List Bool) (rule : Rule) → IsSeen code n reached
    → insn_at code n ≡ Some i → FailsStructure code n i rule → IsIllStructured code n rule
ill code n i reached rule seen is fails = record {
  insn = i;
  is_at = is;
  fails = fails.fails;
  first = fails.first;
  before = λ earlier j other h at. seen.meets earlier j other h at;
}

pub structured : (code : List Insn) (n : ℕ) (reached : List Bool) → slot_count code ≤ n → IsSeen code n reached
    → IsStructured code
structured code n reached h seen = record {
  meets = λ slot i rule is. let w = insn_within code slot i is in
      seen.meets slot i rule (omega arith) is;
}

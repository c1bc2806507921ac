-- `heal_bytes_lend` passes the bytes that `lent` lends to `point`. Its clause on the handle is the one that `lent` ensures.
use Rattle.std.proofs.Common.{◌≡◌, ℕ, List, [], ◌∷◌, refl, sym, ap, subst}
use mir.Syntax.{named, erased, w32}
use mir.Val.{Val, vptr, vint}
use base.Logic.{SProp, emp, id⊢}
use base.Fml.{Lft, Share, ftrue, flft}
use types.Kit.{‵, raw, ◌⊛◌, some, later, ◌$◌, ◌∵◌, !, qed, by, move, keep, drop, split, join, fsplit, pick, use0, use1, use2, await, rewrite}
use types.Run.{stop, addr, no_more, and_then, returns, enter}
use types.ByLocal.{alloc_all, pass_all, free_all, look_at, get, through, sets, lands_as}
use contract.Lifetimes.{Lfts}
use contract.Monad.{fact, fact_i}
use contract.Running.{tables}
use denote.Bor.{Bor}
use denote.Builtin.{u8, u32}
use denote.Exit.{no}
use denote.Laws.{Is, shows}
use denote.RattleType.{RattleType, owns}
use denote.Ref.{NamedLft, mut_vals, mut_Tells}
use denote.Signature.{types_at, plain, mut_ref_to, named_lft}
use denote.Slice.{ShrSlice}
use denote.Steps.{nothing, only, heard, peeks}
use denote.Param.Laws.{Laws, of_field}
use denote.Param.Shared.{copy_shared}
use denote.Struct.Field.{u8-field, shr_slice_field}
use denote.Struct.Laws.{u8-laws, u8-copy, shr_slice_laws, shr_slice_copy}
use denote.Triple.Call.{calls_at}
use denote.Triple.Clauses.{Lasts, lasts}
use denote.Triple.Spec.{triple_of}
use denote.Triple.Table.{framed}
use denote.Triple.Walked.{Stays, stay_dropped, gave_ref, walk_of, Goes-spent_ref, Goes-gave_ref}
use Rattle.std.specs.Prelude.{Option, Some, None, MatchOption}
use Rattle.std.specs.contracts.option.Option as OP
use Rattle.std.proofs.option.Option.TheLaws as option
use Rattle.std.proofs.raw_atomic.Walks.{proved, leaves}
use Rattle.heal_c.specs.Lending.{StaysLent}
use Rattle.heal_c.specs.declared.message_exports.HealSpan.{HealSpan}
use Rattle.heal_c.specs.contracts.message_exports.HealSpan as span
use Rattle.heal_c.specs.contracts.message_handle.HealBytes.{the_row as H}
use Rattle.heal_c.specs.contracts.message_handle.HealBytes.lent as g
use Rattle.heal_c.specs.contracts.message_exports.point as h
use Rattle.heal_c.proofs.message_handle.HealBytes.lent.Met as lent
use Rattle.heal_c.proofs.message_exports.point.Met as point
use Rattle.heal_c.specs.contracts.message_exports.heal_bytes_lend as f
use Rattle.heal_c.specs.contracts.message_exports.heal_bytes_lend.Key.{name as #self}
use Rattle.heal_c.proofs.message_exports.heal_bytes_lend.Statement.{statement}
use Rattle.heal_c.proofs.message_exports.heal_bytes_lend.Code as code

abbrev Span : Lfts 2 → RattleType
Span κs = span.the_row (named_lft 2 0 tt κs)

abbrev stayed : Stays f.ended.signature.params f.ended.kept
stayed = (stay_dropped (mut_ref_to (0 ∷ []) tt (plain (λ _. H))) no, (gave_ref (1 ∷ []) tt (plain Span), tt))

-- the clause of `lent` on its result
abbrev Lent : Option (List ℕ) → Option (Bor (List ℕ)) → Type 0
Lent message r = MatchOption r (message ≡ None) (λ lent. message ≡ Some lent.now)

-- the clause of `point`
abbrev Pointed : Option (Bor (List ℕ)) → HealSpan → HealSpan → ℕ → Type 0
Pointed r before after n = MatchOption r ((n ≡ 91) × (after ≡ before)) (λ held. (n ≡ 0) × (after.bytes.now ≡ held.now) × (after.reserved ≡ 0))

-- the clause of `heal_bytes_lend` on its results
abbrev Answered : Option (List ℕ) → HealSpan → HealSpan → ℕ → Type 0
Answered message before after n = MatchOption message ((n ≡ 91) × (after ≡ before)) (λ held. (n ≡ 0) × (after.bytes.now ≡ held) × (after.reserved ≡ 0))

answered : (message : Option (List ℕ)) (r : Option (Bor (List ℕ))) (before after : HealSpan) (n : ℕ) → Lent message r → Pointed r before after n → Answered message before after n
answered message None before after n is so = subst (λ (m : Option (List ℕ)). Answered m before after n) (sym is) so
answered message (Some lent) before after n is so = subst (λ (m : Option (List ℕ)). Answered m before after n) (sym is) so

module _ (κ : Lft) where
  -- the lent bytes, at the lifetime that the type of a local names
  abbrev at : NamedLft
  at = record { mir = erased; lft = κ }

  abbrev Bytes : RattleType
  Bytes = ShrSlice erased κ u8

  abbrev bytes_laws : Laws Bytes
  bytes_laws = of_field (shr_slice_field at u8 tt) (shr_slice_laws at u8 tt) refl
      (copy_shared (shr_slice_field at u8 tt) (shr_slice_copy at u8 tt (of_field u8-field u8-laws refl (copy_shared u8-field u8-copy)).shr_laws))

  abbrev Out : RattleType
  Out = OP.the_row Bytes

pub heal_bytes_lend_spec : {M : Type 1} → statement M
heal_bytes_lend_spec 𝓤 𝓛 𝓜 𝓡 wired =
    let 𝓣 = tables 𝓤 𝓛.H 𝓜 𝓡 𝓡.env in let c = f.clauses 𝓛 𝓜.mem 𝓡.returns in
    proved 𝓛 f.ended stayed c 𝓜 𝓡 (Goes-spent_ref 𝓛 2 (0 ∷ []) tt (plain (λ _. H)), (Goes-gave_ref 𝓛 2 1 tt (plain Span), tt))
    #self code.function (code.unfolded 𝓤 𝓛.H 𝓜 𝓡 wired)
    (λ κs. (mut_vals, (mut_vals, tt))) (λ κs. (mut_Tells (named 0) κs.0 H, (mut_Tells (named 1) κs.1.0 (Span κs), tt))) (λ κs qs bounds a gh are.
    let κ : Lft = κs.0 in let q : Share = qs.0 in let s = a.1.0 in
    let vs : List Val = vptr a.0.ref_ptr.0 a.0.ref_ptr.1 ∷ [] in let us : List Val = vptr s.ref_ptr.0 s.ref_ptr.1 ∷ [] in
    let y : (walk_of 𝓛 f.ended stayed c).Ghost = ((κs, qs, bounds, a, (vs, (us, tt))), gh) in let Post : Val → SProp 𝓤 = (walk_of 𝓛 f.ended stayed c).post y in
    let G = triple_of 𝓛 g.signature (g.spec 𝓛 𝓜.mem 𝓡.returns) in let P = triple_of 𝓛 h.signature (h.spec 𝓛 𝓜.mem 𝓡.returns) in
    qed 𝓛 (((‵ (flft κ q) ⊛ ‵ (flft κs.1.0 qs.1.0) ⊛ ‵ ftrue) ⊛ ‵ (owns (types_at f.signature.params κs) a y.0.4)) ∷ raw ((c κs a).requires gh) ∷ []) ∵
    split ! $ split ! $ move ! (1 ∷ []) $ split ! $ move ! (3 ∷ []) $ fsplit ! $ move ! (1 ∷ []) $ fsplit ! $ keep ! (5 ∷ 2 ∷ 3 ∷ 0 ∷ []) $
    enter ! 𝓣.C 𝓣.Λ code.function (vptr a.0.ref_ptr.0 a.0.ref_ptr.1 ∷ vptr s.ref_ptr.0 s.ref_ptr.1 ∷ []) Post $ alloc_all ! (λ l. pass_all ! refl ((tt, tt), ((tt, tt), tt)) $
    -- [the handle's token; the handle; the span's token; the span]
    sets ! (addr ! (through ! refl (stop !))) refl (tt, tt) $
    let z : G.Ghost = (((κ, tt), (q, tt), tt, (a.0, tt), (vs, tt)), tt) in
    move ! (1 ∷ []) $ nothing ! $ move ! (1 ∷ 0 ∷ []) $ join ! $ nothing ! $ move ! (2 ∷ 0 ∷ []) $ join ! $ join ! $ nothing ! $ move ! (1 ∷ 0 ∷ []) $ use2 𝓛 (raw (G.pre z)) (id⊢ 𝓤 _) $
    calls_at ! (framed 𝓤 𝓛.H 𝓜 𝓣) G (lent.met 𝓤 𝓛 𝓜 𝓡 (code.calls-heal_c::message_handle::HealBytes::lent 𝓡.env wired)) z (and_then ! (get ! refl) (no_more !)) (λ v.
    use1 𝓛 (later (some (λ (r : Option (Bor (List ℕ))). ((‵ (flft κ q) ⊛ ‵ ftrue) ⊛ ‵ ((Out κ).own_val r (v ∷ []))) ⊛
    some (λ (ws : Lasts g.ended z.0.0 z.0.3). ‵ (lasts g.ended z.0.0 z.0.3 ws) ⊛ ‵ (StaysLent a.0) ⊛ raw (fact 𝓤 (Lent a.0.now.message r)))))) (id⊢ 𝓤 (G.post z v)) $
    await ! tt $ pick ! (λ r. split ! $ move ! (1 ∷ []) $ pick ! (λ _. split ! $ drop ! $ split ! $ move ! (1 ∷ []) $ heard ! (Lent a.0.now.message r) (λ is.
    move ! (1 ∷ []) $ split ! $ split ! $ move ! (2 ∷ []) $ peeks ! (Out κ) (Is (Out κ)) (shows 𝓛 (Out κ)) r (v ∷ []) (λ holds.
    lands_as ! refl refl (((option.the_row_laws (Bytes κ) (bytes_laws κ)).lawful 𝓛).typed r (v ∷ []) holds).0 $
    -- [what is lent; the handle's token; nothing; what the handle ends as; the span's token; the span]
    sets ! (addr ! (through ! refl (stop !))) refl (tt, tt) $
    let x : P.Ghost = ((κs, qs, bounds, (r, (s, tt)), (v ∷ [], (us, tt))), tt) in
    move ! (5 ∷ []) $ move ! (0 ∷ 3 ∷ []) $ join ! $ move ! (1 ∷ 0 ∷ []) $ join ! $
    nothing ! $ move ! (4 ∷ 0 ∷ []) $ join ! $ move ! (2 ∷ 0 ∷ []) $ join ! $ join ! $ nothing ! $ move ! (1 ∷ 0 ∷ []) $ use2 𝓛 (raw (P.pre x)) (id⊢ 𝓤 _) $
    calls_at ! (framed 𝓤 𝓛.H 𝓜 𝓣) P (point.met 𝓤 𝓛 𝓜 𝓡 (code.calls-heal_c::message_exports::point 𝓡.env wired)) x (and_then ! (get ! refl) (and_then ! (get ! refl) (no_more !))) (λ u.
    use1 𝓛 (later (some (λ (n : ℕ). ((‵ (flft κ q) ⊛ ‵ (flft κs.1.0 qs.1.0) ⊛ ‵ ftrue) ⊛ ‵ (u32.own_val n (u ∷ []))) ⊛
    some (λ (ws : Lasts h.ended κs x.0.3). ‵ (lasts h.ended κs x.0.3 ws) ⊛ raw (fact 𝓤 (Pointed r s.now ws.1.0 n)))))) (id⊢ 𝓤 (P.post x u)) $
    await ! tt $ pick ! (λ n. split ! $ split ! $ move ! (1 ∷ []) $ peeks ! u32 (Is u32) (shows 𝓛 u32) n (u ∷ []) (λ holds'. rewrite ! 0 (λ (ws : List Val). ‵ (u32.own_val n ws)) holds'.0 refl $
    move ! (2 ∷ []) $ pick ! (λ ws. split ! $ move ! (1 ∷ []) $ heard ! (Pointed r s.now ws.1.0 n) (λ so.
    lands_as ! (ap only holds'.0) refl (tt, record { fits = holds'.1 }) $
    -- [the span's last value; the number; the tokens; what the handle ends as]
    returns ! (look_at ! 0 refl) $ free_all ! refl $
    let told = Answered a.0.now.message s.now ws.1.0 n in
    use0 𝓛 (raw (fact 𝓤 told)) (fact_i 𝓤 told (emp 𝓤) (answered a.0.now.message r s.now ws.1.0 n is so)) $ move ! (4 ∷ 0 ∷ []) $ join ! $ keep ! (3 ∷ 1 ∷ 2 ∷ 0 ∷ []) $
    by ! (leaves 𝓛 f.ended stayed c y (vint w32 n) n (tt, (ws.1.0, tt)) (tt, (tt, tt)))))))))))))))

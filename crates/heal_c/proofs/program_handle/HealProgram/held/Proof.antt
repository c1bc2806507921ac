-- `held` reads the word, tests it, and lends the value there. The handle follows it.
use Rattle.std.proofs.Common.{◌≡◌, ℕ, ◌+◌, List, [], ◌∷◌, refl, sym, ap, ◌∙◌, lit<}
use seplogic.Ra.Ura.{Ura}
use mir.Syntax.{Body, named, place, copy, assign, aggregate, rv_opd, int, seq, w8}
use mir.Val.{Val, vptr, vcons, vnil, of_list}
use base.Fraction.{full_share}
use base.Logic.{SProp, ent, sep, emp, via, fst∗}
use base.Fml.{Lft, GName, Share, Fml, ftrue, fsep, flft, fobs, fres}
use prog.Wp.{WpFn, Wp, after_seq, at_return, Calls, Loops}
use types.Logic.{Logic, sem}
use types.Kit.{‵, raw, ◌⊛◌, some, later, at_ret, any_q, ◌$◌, ◌∵◌, !, qed, by, move, keep, drop, split, split3, join, pick, fsplit, fsplit3, fjoin, fpack, feq_i, rewrite, use0, use1, await, suffices, frame, group, done}
use types.Run.{stop, fld, lit, addr, load, of_opd, bin, no_more, and_then, first, blocks, branches, exec, returns, enter}
use types.ByLocal.{alloc_all, pass_all, free_all, look_at, get, through, sets, sets_last, env}
use types.Part.{agg, sub, whole, look_in}
use types.Match.{live}
use contract.Monad.{fact}
use contract.Running.{tables}
use denote.Exit.{no}
use denote.RattleType.{RattleType, owns}
use denote.Memory.{part_at, part_of, mem, cell_at, lone}
use denote.Ref.{MutRef, MutBor, mut_vals, mut_Tells}
use denote.Signature.{types_at, type_at, plain, mut_ref_to}
use denote.RawPtr.{Ptr, block_ptr, null_ptr, ptr_val, tests_null}
use denote.Steps.{nothing, opens, closes}
use denote.Param.{layout}
use denote.Follow.{follows, follows_by, lends_Part}
use denote.Triple.Walked.{Stays, stay_dropped, walk_of, ends_at, says, Goes-spent_ref}
use mir.Raw.{raw as bare}
use Rattle.std.specs.Prelude.{Option, Some, None}
use Rattle.std.specs.Box.Ownership.{box_owns}
use Rattle.std.specs.contracts.impls.GlobalAllocator.TheImpl.{ghosts}
use Rattle.std.specs.contracts.option.Option as OP
use Rattle.std.proofs.alloc.Shapes.{after}
use Rattle.std.proofs.cell.Inside.{Good}
use Rattle.std.proofs.option.Made.{Some-of, none_of}
use Rattle.std.proofs.raw_atomic.Walks.{proved}
use Rattle.handles.specs.Handles.{handle_owns}
use Rattle.handles.proofs.Values.{both}
use Rattle.handles.proofs.Words.{Z, either, word_good}
use Rattle.heal_c.specs.Lent.{holding_program}
use Rattle.heal_c.proofs.ProgramWords.{H, R, held_in, held_out}
use Rattle.heal_c.specs.contracts.program_handle.HealProgram.held as f
use Rattle.heal_c.specs.contracts.program_handle.HealProgram.held.Key.{name as #self}
use Rattle.heal_c.proofs.program_handle.HealProgram.held.Statement.{statement}
use Rattle.heal_c.proofs.program_handle.HealProgram.held.Code as code

-- the rest of the branch that found a value
abbrev wraps : Body
wraps = seq (assign (place 6 []) (rv_opd (copy (place 7 [])))) (assign (place 5 []) (aggregate (int w8 1 ∷ copy (place 6 []) ∷ [])))

abbrev stayed : Stays f.ended.signature.params f.ended.kept
stayed = (stay_dropped (mut_ref_to (0 ∷ []) tt (plain (λ _. H))) no, tt)

module _ {M : Type 1} {𝓤 : Ura M} (𝓛 : Logic 𝓤) (κ : Lft) (rb ro : ℕ) (d : H.Denot) (b o : ℕ) (h : Val) where
  -- all of the handle but its value
  abbrev Rest : Fml
  Rest = fsep (fsep (ghosts.dealloc_token d.alloc (bare (lone R.mir)) (block_ptr b o)) (Z.own_val d.alloc (h ∷ []))) (cell_at full_share H.mir (both (vptr b o) h ∷ []) rb ro)

  back : d.at ≡ block_ptr b o → (w : R.Denot) → ent 𝓤 (sep 𝓤 (sem 𝓛 ((mem R).own_at w b o)) (sem 𝓛 Rest)) (sem 𝓛 ((mem H).own_at (holding_program d w) rb ro))
  unfolding part_of
  back is w =
      qed 𝓛 (‵ (part_at R full_share w b o) ∷ ‵ Rest ∷ []) ∵ move ! (1 ∷ []) $ fsplit ! $ fsplit ! $ move ! (3 ∷ 0 ∷ []) $ fjoin ! $
      rewrite ! 0 (λ (p : Ptr). ‵ (box_owns (ghosts.dealloc_token d.alloc) R p w)) (sym is) refl $ rewrite ! 2 (λ (p : Ptr). ‵ (cell_at full_share H.mir (both (ptr_val p) h ∷ []) rb ro)) (sym is) refl $
      held_in ! h (holding_program d w) $ move ! (1 ∷ 0 ∷ []) $ fjoin ! $
      fpack ! (List Val) (λ us. fsep (cell_at full_share H.mir us rb ro) (H.own_val (holding_program d w) us)) (both (ptr_val d.at) h ∷ []) $ done !

pub held_spec : {M : Type 1} → statement M
unfolding follows_by
held_spec 𝓤 𝓛 𝓜 𝓡 wired =
    let 𝓣 = tables 𝓤 𝓛.H 𝓜 𝓡 𝓡.env in let c = f.clauses 𝓛 𝓜.mem 𝓡.returns in
    proved 𝓛 f.ended stayed c 𝓜 𝓡 (Goes-spent_ref 𝓛 1 (0 ∷ []) tt (plain (λ _. H)), tt) #self code.function (code.unfolded 𝓤 𝓛.H 𝓜 𝓡 wired)
    (λ κs. (mut_vals, tt)) (λ κs. (mut_Tells (named 0) κs.0 H, tt)) (λ κs qs bounds a gh are.
    let rb : ℕ = a.0.ref_ptr.0 in let ro : ℕ = a.0.ref_ptr.1 in let κ : Lft = κs.0 in let q : Share = qs.0 in let d : H.Denot = a.0.now in let γ : GName = a.0.ghost_name in
    let y : (walk_of 𝓛 f.ended stayed c).Ghost = ((κs, qs, bounds, a, (vptr rb ro ∷ [], tt)), gh) in let Post : Val → SProp 𝓤 = (walk_of 𝓛 f.ended stayed c).post y in
    let Out : RattleType = type_at f.signature.result κs in let Lent : RattleType = MutRef (named 0) κ R in
    qed 𝓛 (((‵ (flft κ q) ⊛ ‵ ftrue) ⊛ ‵ (owns (types_at f.signature.params κs) a y.0.4)) ∷ raw ((c κs a).requires gh) ∷ []) ∵
    split ! $ split ! $ move ! (2 ∷ []) $ fsplit ! $ fsplit3 ! $ keep ! (1 ∷ 2 ∷ 4 ∷ []) $
    enter ! 𝓣.C 𝓣.Λ code.function (vptr rb ro ∷ []) Post $ alloc_all ! (λ l. pass_all ! refl ((tt, tt), tt) $ let Ev = env (code.function).locals l in
    opens ! tt H rb ro (λ vs. move ! (1 ∷ []) $ held_out ! d vs (λ h ws gh'. either R ! d.alloc d.at d.program
    (λ is none. let good = word_good null_ptr in let held : List Val = both (ptr_val d.at) h ∷ [] in
    let word : vs ≡ both (ptr_val null_ptr) h ∷ [] = ws ∙ ap (λ (p : Ptr). both (ptr_val p) h ∷ []) is in
    rewrite ! 1 (λ (us : List Val). ‵ (cell_at full_share H.mir us rb ro)) word refl $
    sets ! (of_opd ! (load ! (through ! refl (fld ! refl (stop !))) (look_in ! 1 (sub ! 0 refl (whole !))))) refl good $
    sets ! (of_opd ! (get ! refl)) refl good $ sets ! (bin ! (get ! refl) (lit ! tt) tt) refl (tt, tt) $
    rewrite ! 1 (λ (us : List Val). ‵ (cell_at full_share H.mir us rb ro)) (sym word ∙ ws) refl $ feq_i ! Ptr d.at null_ptr is $ rewrite ! 0 (λ (e : Option R.Denot). ‵ (handle_owns d.alloc R d.at e)) (sym none) refl $
    held_in ! h d $ move ! (1 ∷ []) $ closes ! tt H d held rb ro $ first ! $ branches ! (get ! refl)
    (λ _. sets_last ! (agg ! (and_then ! (lit ! tt) (no_more !))) refl (tt, (record { fits = lit< tt }, tt)) $ exec ! 𝓣.C 𝓣.Λ Ev (after 4 (code.function).body) (at_ret Ev Post) $ sets ! (of_opd ! (get ! refl)) refl (tt, (record { fits = lit< tt }, tt)) $
    returns ! (look_at ! 0 refl) $ free_all ! refl $ keep ! (0 ∷ 2 ∷ []) $ use1 𝓛 (‵ (fres γ (H.coded.code d))) (𝓛.names.obs-res γ (H.coded.code d)) $ move ! (1 ∷ []) $
    use0 𝓛 (‵ (Out.own_val None (live 0 vnil ∷ []))) (none_of 𝓛 Lent) $ suffices ! _ (ends_at 𝓛 f.ended stayed c y (live 0 vnil) None (tt, tt) (tt, tt)) $
    nothing ! $ nothing ! $ fjoin ! $ join ! $ nothing ! $ move ! (2 ∷ 0 ∷ []) $ join ! $ join ! $ frame ! $ says ! none $ done !)
    (λ wrong. absurd wrong))
    (λ b o x is some_x may. let r : GName → MutBor R.Denot = λ γ'. record { ref_ptr = (b, o); ghost_name = γ'; now = x } in let v : Val = live 1 (vcons (vptr b o) vnil) in
    let good : Good (layout Out) v = (tt, (record { fits = lit< tt }, (tt, tt))) in
    let Then = any_q (after_seq 𝓤 𝓛.H (Wp 𝓤 𝓛.H 𝓣.C 𝓣.Λ Ev (after 4 (code.function).body) (at_return 𝓤 𝓛.H Ev Post)) (at_return 𝓤 𝓛.H Ev Post)) in
    rewrite ! 2 (λ (us : List Val). ‵ (cell_at full_share H.mir us rb ro)) (ws ∙ ap (λ (p : Ptr). both (ptr_val p) h ∷ []) is) refl $ fsplit ! $
    sets ! (of_opd ! (load ! (through ! refl (fld ! refl (stop !))) (look_in ! 3 (sub ! 0 refl (whole !))))) refl (tt, tt) $
    sets ! (of_opd ! (get ! refl)) refl (tt, tt) $ sets ! (bin ! (get ! refl) (lit ! tt) (tests_null (block_ptr b o) may)) refl (tt, tt) $ first ! $ branches ! (get ! refl) (λ wrong. absurd wrong) (λ _.
    first ! $ blocks ! $ sets ! (of_opd ! (get ! refl)) refl (tt, tt) $ sets ! (of_opd ! (get ! refl)) refl (tt, tt) $ sets_last ! (addr ! (through ! refl (stop !))) refl (tt, tt) $ exec ! 𝓣.C 𝓣.Λ Ev wraps Then $
    sets ! (of_opd ! (get ! refl)) refl (tt, tt) $ sets_last ! (agg ! (and_then ! (lit ! tt) (and_then ! (get ! refl) (no_more !)))) refl good $
    exec ! 𝓣.C 𝓣.Λ Ev (after 4 (code.function).body) (at_ret Ev Post) $ sets ! (of_opd ! (get ! refl)) refl good $
    move ! (1 ∷ 2 ∷ []) $ fjoin ! $ move ! (0 ∷ 2 ∷ []) $ fjoin ! $ move ! (2 ∷ 3 ∷ 4 ∷ 1 ∷ 0 ∷ []) $ group ! 5 $
    use1 𝓛 (later (some (λ (γ' : GName). ‵ (Lent.own_val (r γ') (vptr b o ∷ [])) ⊛ ‵ (flft κ q) ⊛ ‵ (follows H R γ γ' (holding_program d)))))
    (lends_Part 𝓛 H R (holding_program d) (named 0) κ q rb ro b o γ (sem 𝓛 (Rest 𝓛 κ rb ro d b o h)) (back 𝓛 κ rb ro d b o h is) (H.coded.code d) (H.coded.code d) x) $ await ! tt $ pick ! (λ γ'.
    returns ! (look_at ! 0 refl) $ free_all ! refl $ keep ! (0 ∷ []) $ split3 ! $ use1 𝓛 (‵ (Out.own_val (Some (r γ')) (v ∷ []))) (Some-of 𝓛 Lent (r γ') (vptr b o)) $
    suffices ! _ (ends_at 𝓛 f.ended stayed c y v (Some (r γ')) (tt, tt) (tt, tt)) $
    nothing ! $ nothing ! $ fjoin ! $ join ! $ nothing ! $ move ! (2 ∷ 0 ∷ []) $ join ! $ join ! $ frame ! $ says ! some_x $ done !)))))))

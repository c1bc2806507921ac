-- Clashes that have their code from the programs of one of two tables.
use Rattle.std.proofs.Common.{◌≡◌, ◌⊎◌, ℕ, Bool, true, false, if◌then◌else◌, Option, Some, None, List, [], ◌∷◌, All, refl, ap, sym, subst, ◌∙◌, inl, inr}
use Rattle.std.proofs.lemmas.List.Elements.{All-nil, All-cons, All-head, All-tail}
use Rattle.std.specs.List.{filter_map, cons_option}
use Rattle.std.specs.Ordering.{is_lt}
use Rattle.std.specs.FinMap.{get, keys}
use Rattle.instruction_set.specs.declared.insn.Insn.{Insn}
use Rattle.clash_record.specs.declared.registrations.ResolverId.{ResolverId}
use Rattle.clash_record.specs.declared.registrations.ResolverId.TheVariants.{Builtin, Program}
use Rattle.clash_record.specs.declared.records.Facts.{Facts}
use Rattle.clash_record.specs.Orders.{registration_cmp}
use Rattle.clash_record.specs.Name.{Name}
use Rattle.upload_store.specs.Programs.{Programs}
use Rattle.partition_table.specs.declared.both.BothPrograms.{BothPrograms}
use Rattle.partition_table.specs.Tables.{Row, Table, IsTable, Clash, IsCodeOf, code_for, clash_at, clash_of, clashes, facts_of, same_registration}
use Rattle.partition_table.specs.laws.Sameness.{registration_decides}
use Rattle.partition_table.specs.model.Coding.{AreProgramsOf, BothAgree, IsCoded, IsDecided, IdsDecide, of_a, of_b}
use Rattle.partition_table.specs.model.Keeping.{programs_agree}

-- ---- the clashes of two tables

module _ (a b : Table) (kept_a : IsTable a) (kept_b : IsTable b) (both : BothPrograms)
    (programs : AreProgramsOf a b both) where
  -- a clash has the code of the row that its first registration comes from
  found : (row : Row) (clash : Clash) → clash.first ≡ row.registration → clash.code ≡ row.code
      → IsCodeOf row.registration.resolver row.code
      → (row.code ≡ code_for (of_a both) row.registration.resolver)
      ⊎ (row.code ≡ code_for (of_b both) row.registration.resolver) → IsCoded both clash
  found row clash first code coded among = record {
    coded = subst (λ r. IsCodeOf r.resolver clash.code) (sym first)
        (subst (IsCodeOf row.registration.resolver) (sym code) coded);
    found = by among;
  }
    where
      by : (row.code ≡ code_for (of_a both) row.registration.resolver)
          ⊎ (row.code ≡ code_for (of_b both) row.registration.resolver)
          → (clash.code ≡ code_for (of_a both) clash.first.resolver) ⊎ (clash.code ≡ code_for (of_b both) clash.first.resolver)
      by (inl e) = inl (code ∙ e ∙ ap (λ r. code_for (of_a both) r.resolver) (sym first))
      by (inr e) = inr (code ∙ e ∙ ap (λ r. code_for (of_b both) r.resolver) (sym first))

  from_a : (name : Name) (row : Row) (clash : Clash) → get a name ≡ Some row → clash.first ≡ row.registration
      → clash.code ≡ row.code → IsCoded both clash
  from_a name row clash there first code =
      found row clash first code (kept_a.coded name row there) (programs.0 name row there)

  from_b : (name : Name) (row : Row) (clash : Clash) → get b name ≡ Some row → clash.first ≡ row.registration
      → clash.code ≡ row.code → IsCoded both clash
  from_b name row clash there first code =
      found row clash first code (kept_b.coded name row there) (programs.1 name row there)

  coded_at : (of_a of_b : Facts) (name : Name) (ra sb : Option Row) → get a name ≡ ra → get b name ≡ sb
      → (clash : Clash) → clash_at of_a of_b name ra sb ≡ Some clash → IsCoded both clash
  coded_at of_a of_b name None None h k clash e = absurd (cc)
  coded_at of_a of_b name None (Some s) h k clash e = absurd (cc)
  coded_at of_a of_b name (Some r) None h k clash e = absurd (cc)
  coded_at of_a of_b name (Some r) (Some s) h k clash e = by_equal (same_registration r.registration s.registration) e
    where
      by_less : (less : Bool)
          → (if less then record {
            name = name;
            first = r.registration;
            second = s.registration;
            of_first = of_a;
            of_second = of_b;
            code = r.code;
          } else record {
            name = name;
            first = s.registration;
            second = r.registration;
            of_first = of_b;
            of_second = of_a;
            code = s.code;
          }) ≡ clash → IsCoded both clash
      by_less true e = from_a name r clash h (ap (λ (c : Clash). c.first) (sym e)) (ap (λ (c : Clash). c.code) (sym e))
      by_less false e = from_b name s clash k (ap (λ (c : Clash). c.first) (sym e)) (ap (λ (c : Clash). c.code) (sym e))

      by_equal : (equal : Bool) → (if equal then None else Some (clash_of name r of_a s of_b)) ≡ Some clash
          → IsCoded both clash
      by_equal true e = absurd (cc)
      by_equal false e =
          let is : clash_of name r of_a s of_b ≡ clash = cc in
          by_less (is_lt (registration_cmp r.registration s.registration)) is

  pub all_coded : (of_a of_b : Facts) (names : List Name)
      → All (IsCoded both) (filter_map (λ name. clash_at of_a of_b name (get a name) (get b name)) names)
  all_coded of_a of_b [] = All-nil (IsCoded both)
  all_coded of_a of_b (name ∷ names) =
      by (clash_at of_a of_b name (get a name) (get b name)) refl (all_coded of_a of_b names)
    where
      by : (o : Option Clash) → clash_at of_a of_b name (get a name) (get b name) ≡ o
          → All (IsCoded both) (filter_map (λ name. clash_at of_a of_b name (get a name) (get b name)) names)
          → All (IsCoded both)
          (cons_option o (filter_map (λ name. clash_at of_a of_b name (get a name) (get b name)) names))
      by None e rest = rest
      by (Some clash) e rest = All-cons (IsCoded both) clash
          (filter_map (λ name. clash_at of_a of_b name (get a name) (get b name)) names)
          (coded_at of_a of_b name (get a name) (get b name) refl refl clash e) rest

  pub clashes_coded : (uptime_a uptime_b : ℕ) → All (IsCoded both) (clashes a uptime_a b uptime_b)
  unfolding clashes
  clashes_coded uptime_a uptime_b = all_coded (facts_of a uptime_a) (facts_of b uptime_b) (keys a)

-- ---- where the ids of two lists decide

one_code : (p q : Programs) → programs_agree p q → (r : ResolverId) (c d : Option (List Insn)) → IsCodeOf r c → IsCodeOf r d
    → c ≡ code_for p r → d ≡ code_for q r → c ≡ d
one_code p q agree (Builtin x) c d coded_c coded_d e f = e ∙ sym f
one_code p q agree (Program id) None d coded_c coded_d e f = absurd coded_c
one_code p q agree (Program id) (Some c) None coded_c coded_d e f = absurd coded_d
one_code p q agree (Program id) (Some c) (Some d) coded_c coded_d e f = by (agree id c (sym e))
  where
    by : (get q id ≡ None) ⊎ (get q id ≡ Some c) → Some c ≡ Some d
    by (inl none) = absurd (cc)
    by (inr same) = sym same ∙ sym f

module _ (p q : BothPrograms) (agree : BothAgree p q) where
  id_decides : (c d : Clash) → IsCoded p c → IsCoded q d → IsDecided c d
  id_decides c d coded_c coded_d tested = by coded_c.found coded_d.found
    where
      same : c.first ≡ d.first
      same = (registration_decides c.first d.first).0 tested

      is : IsCodeOf c.first.resolver d.code
      is = subst (λ x. IsCodeOf x.resolver d.code) (sym same) coded_d.coded

      over : (programs : Programs) → d.code ≡ code_for programs d.first.resolver → d.code ≡ code_for programs c.first.resolver
      over programs e = e ∙ ap (λ x. code_for programs x.resolver) (sym same)

      by : (c.code ≡ code_for (of_a p) c.first.resolver) ⊎ (c.code ≡ code_for (of_b p) c.first.resolver)
          → (d.code ≡ code_for (of_a q) d.first.resolver) ⊎ (d.code ≡ code_for (of_b q) d.first.resolver) → c.code ≡ d.code
      by (inl e) (inl f) = one_code _ _ agree.0.0 c.first.resolver c.code d.code coded_c.coded is e (over _ f)
      by (inl e) (inr f) = one_code _ _ agree.0.1 c.first.resolver c.code d.code coded_c.coded is e (over _ f)
      by (inr e) (inl f) = one_code _ _ agree.1.0 c.first.resolver c.code d.code coded_c.coded is e (over _ f)
      by (inr e) (inr f) = one_code _ _ agree.1.1 c.first.resolver c.code d.code coded_c.coded is e (over _ f)

  pub ids_decide : (cs ds : List Clash) → All (IsCoded p) cs → All (IsCoded q) ds → IdsDecide cs ds
  ids_decide [] ds coded_c coded_d = tt
  ids_decide (c ∷ cs) [] coded_c coded_d = tt
  ids_decide (c ∷ cs) (d ∷ ds) coded_c coded_d = (
    id_decides c d (All-head (IsCoded p) c cs coded_c) (All-head (IsCoded q) d ds coded_d),
    ids_decide cs ds (All-tail (IsCoded p) c cs coded_c) (All-tail (IsCoded q) d ds coded_d),
  )

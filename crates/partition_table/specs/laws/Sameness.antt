-- The tests for rows, tables and clashes tell just when two are equal.
use Rattle.std.proofs.Common.{◌≡◌, ℕ, Bool, ◌&&◌, Option, Some, None, List, refl, ap, sym, ◌∙◌}
use Rattle.std.proofs.lemmas.Bool.{and_parts, and_from}
use Rattle.std.proofs.lemmas.Bool.Decides.{Decides-eqb, same_from_decides}
use Rattle.std.proofs.lemmas.Slice.Eq.{slice_eq-Decides}
use Rattle.std.specs.Bool.{Decides}
use Rattle.std.specs.Cmp.{IsEquivalence, IsTotalOrder, Equal-is, tied_itself}
use Rattle.std.specs.Cmp.Lexicographic.{pointwise}
use Rattle.std.specs.declared.cmp.Ordering.{Ordering}
use Rattle.std.specs.Ordering.{eq_by_cmp, is_eq}
use Rattle.std.specs.FinMap.{IsAntisymmetric, entries, same_entries_map}
use Rattle.instruction_set.specs.declared.insn.Insn.{Insn}
use Rattle.instruction_set.specs.laws.SameInsn as insns
use Rattle.clash_record.specs.declared.registrations.Registration.{Registration}
use Rattle.clash_record.specs.declared.records.Facts.{Facts}
use Rattle.clash_record.specs.laws.Orders.{names_total, names_exact, registrations_total, registrations_exact}
use Rattle.clash_record.specs.Name.{Name}
use Rattle.partition_table.specs.Tables.{Row, Table, Clash, is_same_name, same_registration, same_code, same_row, same_entry, same_table, same_facts, same_clash}

-- a test that tells when two are equal is an equivalence
pub equivalent_by : {A : Type 0} {E : A → A → Bool} → ((x y : A) → Decides (E x y) (x ≡ y)) → IsEquivalence E
equivalent_by {E = E} decides = record {
  refl = λ x. (decides x x).1 refl;
  symm = λ x y. same_from_decides (E x y) (E y x) (decides x y) (
    λ t. sym ((decides y x).0 t),
    λ e. (decides y x).1 (sym e),
  );
  congr = λ x y z t. ap (λ u. E u z) ((decides x y).0 t);
}

by_order : {A : Type 0} {R : A → A → Ordering} → IsTotalOrder R → IsAntisymmetric R → (x y : A)
    → Decides (eq_by_cmp R x y) (x ≡ y)
by_order {R = R} total exact x y =
    (λ t. exact x y ((Equal-is (R x y)).0 t), λ e. ap (λ u. is_eq (R x u)) (sym e) ∙ ap is_eq (tied_itself total x))

pub name_decides : (n m : Name) → Decides (is_same_name n m) (n ≡ m)
name_decides = by_order names_total names_exact

pub registration_decides : (r s : Registration) → Decides (same_registration r s) (r ≡ s)
registration_decides = by_order registrations_total registrations_exact

pub code_decides : (c d : Option (List Insn)) → Decides (same_code c d) (c ≡ d)
code_decides (Some c) (Some d) = (
  λ t. ap Some ((insns.same_code c d _ refl).0 t),
  λ e. let is : c ≡ d = cc in
      (insns.same_code c d _ refl).1 is,
)
code_decides (Some c) None = (λ t. absurd (cc), λ e. absurd (cc))
code_decides None (Some d) = (λ t. absurd (cc), λ e. absurd (cc))
code_decides None None = (λ t. refl, λ e. refl)

-- two tests tell when pairs are equal
pub both_decide : {P Q : Type 0} (a b : Bool) → Decides a P → Decides b Q → Decides (a && b) (P × Q)
both_decide a b p q =
    (λ t. let parts = and_parts a b t in (p.0 parts.0, q.0 parts.1), λ h. and_from a b (p.1 h.0) (q.1 h.1))

pub row_decides : (r s : Row) → Decides (same_row r s) (r ≡ s)
row_decides r s =
    let parts = both_decide _ _ (registration_decides r.registration s.registration) (code_decides r.code s.code) in (
      λ t. let is = parts.0 t in
          ap (λ (x : Registration). record { registration = x; code = r.code }) is.0
          ∙ ap (λ (c : Option (List Insn)). record { registration = s.registration; code = c }) is.1,
      λ e. parts.1 (ap (λ (x : Row). x.registration) e, ap (λ (x : Row). x.code) e),
    )

entry_decides : (e f : Name × Row) → Decides (same_entry e f) (e ≡ f)
entry_decides e f =
    let parts = both_decide _ _ (name_decides e.0 f.0) (row_decides e.1 f.1) in (
      λ t. let is = parts.0 t in ap (λ (n : Name). (n, e.1)) is.0 ∙ ap (λ (r : Row). (f.0, r)) is.1,
      λ h. parts.1 (ap (λ (x : Name × Row). x.0) h, ap (λ (x : Name × Row). x.1) h),
    )

pub table_decides : (a b : Table) → Decides (same_table a b) (a ≡ b)
unfolding same_table
table_decides a b =
    let same = slice_eq-Decides entry_decides (entries a) (entries b) _ refl in
    (λ t. same_entries_map a b (same.0 t), λ e. same.1 (ap entries e))

facts_decide : (f g : Facts) → Decides (same_facts f g) (f ≡ g)
facts_decide f g =
    let parts = both_decide _ _ (Decides-eqb f.size g.size) (Decides-eqb f.uptime g.uptime) in (
      λ t. let is = parts.0 t in ap (λ (n : ℕ). record { size = n; uptime = f.uptime }) is.0
          ∙ ap (λ (n : ℕ). record { size = g.size; uptime = n }) is.1,
      λ e. parts.1 (ap (λ (x : Facts). x.size) e, ap (λ (x : Facts). x.uptime) e),
    )

pub clash_decides : (c d : Clash) → Decides (same_clash c d) (c ≡ d)
clash_decides c d =
    let parts =
    both_decide _ _ (name_decides c.name d.name)
    (both_decide _ _ (registration_decides c.first d.first)
    (both_decide _ _ (registration_decides c.second d.second)
    (both_decide _ _ (facts_decide c.of_first d.of_first)
    (both_decide _ _ (facts_decide c.of_second d.of_second) (code_decides c.code d.code))))) in (
      λ t. let is = parts.0 t in
          ap (λ (n : Name). record {
            name = n;
            first = c.first;
            second = c.second;
            of_first = c.of_first;
            of_second = c.of_second;
            code = c.code;
          }) is.0
          ∙ ap (λ (r : Registration). record {
            name = d.name;
            first = r;
            second = c.second;
            of_first = c.of_first;
            of_second = c.of_second;
            code = c.code;
          }) is.1.0
          ∙ ap (λ (r : Registration). record {
            name = d.name;
            first = d.first;
            second = r;
            of_first = c.of_first;
            of_second = c.of_second;
            code = c.code;
          }) is.1.1.0
          ∙ ap (λ (f : Facts). record {
            name = d.name;
            first = d.first;
            second = d.second;
            of_first = f;
            of_second = c.of_second;
            code = c.code;
          }) is.1.1.1.0
          ∙ ap (λ (f : Facts). record {
            name = d.name;
            first = d.first;
            second = d.second;
            of_first = d.of_first;
            of_second = f;
            code = c.code;
          }) is.1.1.1.1.0
          ∙ ap (λ (x : Option (List Insn)). record {
            name = d.name;
            first = d.first;
            second = d.second;
            of_first = d.of_first;
            of_second = d.of_second;
            code = x;
          }) is.1.1.1.1.1,
      λ e. parts.1 (
        ap (λ (x : Clash). x.name) e,
        (
          ap (λ (x : Clash). x.first) e,
          (
            ap (λ (x : Clash). x.second) e,
            (ap (λ (x : Clash). x.of_first) e, (ap (λ (x : Clash). x.of_second) e, ap (λ (x : Clash). x.code) e)),
          ),
        ),
      ),
    )

pub tables_equivalent : IsEquivalence same_table
tables_equivalent = equivalent_by table_decides

pub clashes_equivalent : IsEquivalence same_clash
clashes_equivalent = equivalent_by clash_decides

pub list_decides : (cs ds : List Clash) → Decides (pointwise same_clash cs ds) (cs ≡ ds)
list_decides cs ds = slice_eq-Decides clash_decides cs ds _ refl

pub lists_equivalent : IsEquivalence (pointwise same_clash)
lists_equivalent = equivalent_by list_decides

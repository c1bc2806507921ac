-- Clashes and merge are the same whichever table is named first.
use Rattle.std.proofs.Common.{◌≡◌, ℕ, Bool, true, false, cond, if◌then◌else◌, not, ◌&&◌, ◌||◌, filter, Option, Some, None, is_some, List, [], ◌∷◌, length, suc, map, refl, ap, sym, ◌∙◌, inl, inr}
use Rattle.std.proofs.lemmas.Map.Lookups.{btree_set_from_contains}
use Rattle.std.proofs.lemmas.List.Kept.{IsStrictlySortedBy-filter}
use Rattle.std.specs.List.{filter_map, cons_option, list_any}
use Rattle.std.specs.List.Sorted.{IsStrictlySortedBy}
use Rattle.std.specs.declared.cmp.Ordering.{Ordering}
use Rattle.std.specs.declared.cmp.Ordering.TheVariants.{Less, Equal, Greater}
use Rattle.std.specs.Ordering.{is_eq, is_lt, ordering_reverse}
use Rattle.std.specs.Cmp.{Equal-is, eq_by_cmp_equiv}
use Rattle.std.specs.FinMap.{get, keys, contains_key-keys}
use Rattle.instruction_set.specs.declared.insn.Insn.{Insn}
use Rattle.clash_record.specs.declared.registrations.ResolverId.{ResolverId}
use Rattle.clash_record.specs.declared.registrations.ResolverId.TheVariants.{Builtin, Program}
use Rattle.clash_record.specs.declared.registrations.Registration.{Registration}
use Rattle.clash_record.specs.declared.records.Facts.{Facts}
use Rattle.clash_record.specs.Orders.{name_cmp, registration_cmp}
use Rattle.clash_record.specs.laws.Orders.{names_total, names_exact, registrations_total, registrations_exact}
use Rattle.builtin_resolvers.specs.declared.verdicts.Verdict3.{Verdict3}
use Rattle.builtin_resolvers.specs.declared.verdicts.Verdict3.TheVariants.{First, Second, Neither}
use Rattle.clash_record.specs.Name.{Name}
use Rattle.partition_table.specs.Tables.{Row, Table, IsTable, IsCodeOf, program_of, Clash, clash_of, clash_at, clashes, facts_of, same_registration, differ, clash_names, is_same_name, is_in, answer_at, winner, merged_at, holds, unless_gone, merge, tables_agree}
use Rattle.partition_table.proofs.Merged.{same_name, merge_is, is_the_merge}
use Rattle.partition_table.proofs.Settling.{keys_sorted}
use Rattle.partition_table.proofs.Uniting.{two_agree}

-- ---- the names of clashes

head_name : (of_a of_b : Facts) (n : Name) (r s : Option Row) (cs : List Clash) (ns : List Name)
    → map (λ c. c.name) cs ≡ ns
    → map (λ c. c.name) (cons_option (clash_at of_a of_b n r s) cs) ≡ cond (differ r s) (n ∷ ns) ns
head_name of_a of_b n None s cs ns h = h
head_name of_a of_b n (Some r) None cs ns h = h
head_name of_a of_b n (Some r) (Some s) cs ns h =
    by (same_registration r.registration s.registration) (is_lt (registration_cmp r.registration s.registration))
  where
    by : (same less : Bool)
        → map (λ c. c.name) (cons_option (if same then None else Some (
        if less
        then record {
          name = n;
          first = r.registration;
          second = s.registration;
          of_first = of_a;
          of_second = of_b;
          code = r.code;
        }
        else record {
          name = n;
          first = s.registration;
          second = r.registration;
          of_first = of_b;
          of_second = of_a;
          code = s.code;
        })) cs)
        ≡ cond (not same) (n ∷ ns) ns
    by true less = h
    by false true = ap (λ ms. n ∷ ms) h
    by false false = ap (λ ms. n ∷ ms) h

names_in : (of_a of_b : Facts) (a b : Table) (ns : List Name)
    → map (λ c. c.name) (filter_map (λ name. clash_at of_a of_b name (get a name) (get b name)) ns)
    ≡ filter (λ name. differ (get a name) (get b name)) ns
names_in of_a of_b a b [] = refl
names_in of_a of_b a b (n ∷ ns) = head_name of_a of_b n (get a n) (get b n) _ _ (names_in of_a of_b a b ns)

pub names_of_clashes : (a b : Table) (uptime_a uptime_b : ℕ)
    → map (λ c. c.name) (clashes a uptime_a b uptime_b) ≡ clash_names a b
unfolding clashes clash_names
names_of_clashes a b uptime_a uptime_b = names_in (facts_of a uptime_a) (facts_of b uptime_b) a b (keys a)

count_named : (cs : List Clash) → length (map (λ c. c.name) cs) ≡ length cs
count_named [] = refl
count_named (c ∷ cs) = ap suc (count_named cs)

pub count_of_clashes : (a b : Table) (uptime_a uptime_b : ℕ)
    → length (clashes a uptime_a b uptime_b) ≡ length (clash_names a b)
count_of_clashes a b uptime_a uptime_b =
    sym (count_named (clashes a uptime_a b uptime_b)) ∙ ap length (names_of_clashes a b uptime_a uptime_b)

-- ---- names in order with the same members are the same

pub any_kept : (p : Name → Bool) (q : Name) (ns : List Name) → list_any (is_same_name q) (filter p ns)
    ≡ (p q && list_any (is_same_name q) ns)
any_kept p q [] = by (p q)
  where
    by : (b : Bool) → false ≡ (b && false)
    by true = refl
    by false = refl
any_kept p q (n ∷ ns) = by (p n) refl (is_same_name q n) refl (any_kept p q ns)
  where
    by : (b : Bool) → p n ≡ b → (t : Bool) → is_same_name q n ≡ t
        → list_any (is_same_name q) (filter p ns) ≡ (p q && list_any (is_same_name q) ns)
        → list_any (is_same_name q) (cond b (n ∷ filter p ns) (filter p ns)) ≡ (p q && (t || list_any (is_same_name q) ns))
    by true e true t ih =
        let yes : p q ≡ true = ap p (same_name q n t) ∙ e in
        ap (λ x. x || list_any (is_same_name q) (filter p ns)) t ∙ sym (ap (λ x. x && true) yes)
    by true e false t ih = ap (λ x. x || list_any (is_same_name q) (filter p ns)) t ∙ ih
    by false e true t ih =
        let no : p q ≡ false = ap p (same_name q n t) ∙ e in
        ih ∙ ap (λ x. x && list_any (is_same_name q) ns) no ∙ sym (ap (λ x. x && true) no)
    by false e false t ih = ih

pub same_names : (ns ms : List Name) → IsStrictlySortedBy name_cmp ns → IsStrictlySortedBy name_cmp ms
    → ((q : Name) → list_any (is_same_name q) ns ≡ list_any (is_same_name q) ms) → ns ≡ ms
same_names ns ms sorted_ns sorted_ms same =
    btree_set_from_contains names_total (record { keys = ns }) (record {
      keys = ms;
    }) sorted_ns sorted_ms same names_exact

differ_back : (r s : Option Row) → differ r s ≡ differ s r
differ_back None None = refl
differ_back None (Some s) = refl
differ_back (Some r) None = refl
differ_back (Some r) (Some s) = ap not ((eq_by_cmp_equiv registrations_total).symm r.registration s.registration)

differ_there : (r s : Option Row) → (differ r s && is_some r) ≡ differ r s
differ_there None s = refl
differ_there (Some r) None = refl
differ_there (Some r) (Some s) = by (differ (Some r) (Some s))
  where
    by : (b : Bool) → (b && true) ≡ b
    by true = refl
    by false = refl

pub any_clash : (a b : Table) (q : Name) → list_any (is_same_name q) (clash_names a b) ≡ differ (get a q) (get b q)
unfolding clash_names
any_clash a b q =
    any_kept (λ name. differ (get a name) (get b name)) q (keys a)
    ∙ ap (λ x. differ (get a q) (get b q) && x) (sym (contains_key-keys a q))
    ∙ differ_there (get a q) (get b q)

clash_names_sorted : (a b : Table) → IsStrictlySortedBy name_cmp (clash_names a b)
unfolding clash_names
clash_names_sorted a b = IsStrictlySortedBy-filter name_cmp (λ name. differ (get a name) (get b name)) (keys a)
    (keys_sorted a)

-- the names that clash are the same from either side
pub clash_names_back : (a b : Table) → clash_names a b ≡ clash_names b a
clash_names_back a b = same_names (clash_names a b) (clash_names b a) (clash_names_sorted a b) (clash_names_sorted b a)
    (λ q. any_clash a b q ∙ differ_back (get a q) (get b q) ∙ sym (any_clash b a q))

-- ---- clashes

reversed : (r s : Registration) (o : Ordering) → registration_cmp r s ≡ o → registration_cmp s r ≡ ordering_reverse o
reversed r s o h = registrations_total.antisymm s r ∙ ap ordering_reverse h

clash_back : (of_a of_b : Facts) (n : Name) (r s : Option Row) → clash_at of_a of_b n r s ≡ clash_at of_b of_a n s r
clash_back of_a of_b n None None = refl
clash_back of_a of_b n None (Some s) = refl
clash_back of_a of_b n (Some r) None = refl
clash_back of_a of_b n (Some r) (Some s) = by (registration_cmp r.registration s.registration) refl
  where
    by : (o : Ordering) → registration_cmp r.registration s.registration ≡ o
        → clash_at of_a of_b n (Some r) (Some s) ≡ clash_at of_b of_a n (Some s) (Some r)
    by Less e = let back = reversed r.registration s.registration Less e in rw (e, back) refl
    by Equal e = let back = reversed r.registration s.registration Equal e in rw (e, back) refl
    by Greater e = let back = reversed r.registration s.registration Greater e in rw (e, back) refl

no_clash : (of_a of_b : Facts) (n : Name) (r s : Option Row) → differ r s ≡ false → clash_at of_a of_b n r s ≡ None
no_clash of_a of_b n None s e = refl
no_clash of_a of_b n (Some r) None e = refl
no_clash of_a of_b n (Some r) (Some s) e = by (same_registration r.registration s.registration) e
  where
    by : (b : Bool) → not b ≡ false → (if b then None else Some (clash_of n r of_a s of_b)) ≡ None
    by true e = refl
    by false e = absurd (cc)

only_kept : {Y : Type 0} (h : Name → Option Y) (p : Name → Bool) → ((n : Name) → p n ≡ false → h n ≡ None)
    → (ns : List Name)
    → filter_map h ns ≡ filter_map h (filter p ns)
only_kept h p none [] = refl
only_kept {Y = Y} h p none (n ∷ ns) = by (p n) refl (only_kept h p none ns)
  where
    by : (b : Bool) → p n ≡ b → filter_map h ns ≡ filter_map h (filter p ns)
        → cons_option (h n) (filter_map h ns) ≡ filter_map h (cond b (n ∷ filter p ns) (filter p ns))
    by true e ih = ap (cons_option (h n)) ih
    by false e ih = ap (λ o. cons_option o (filter_map h ns)) (none n e) ∙ ih

each_back : {Y : Type 0} (h k : Name → Option Y) → ((n : Name) → h n ≡ k n) → (ns : List Name)
    → filter_map h ns ≡ filter_map k ns
each_back h k same [] = refl
each_back h k same (n ∷ ns) = ap (λ o. cons_option o (filter_map h ns)) (same n)
    ∙ ap (cons_option (k n)) (each_back h k same ns)

by_clash_names : (of_a of_b : Facts) (a b : Table)
    → filter_map (λ name. clash_at of_a of_b name (get a name) (get b name)) (keys a)
    ≡ filter_map (λ name. clash_at of_a of_b name (get a name) (get b name)) (clash_names a b)
unfolding clash_names
by_clash_names of_a of_b a b =
    only_kept (λ name. clash_at of_a of_b name (get a name) (get b name)) (λ name. differ (get a name) (get b name))
    (λ n. no_clash of_a of_b n (get a n) (get b n)) (keys a)

-- the list of clashes is the same from either side
pub clashes_back : (a b : Table) (uptime_a uptime_b : ℕ) → clashes a uptime_a b uptime_b ≡ clashes b uptime_b a uptime_a
unfolding clashes
clashes_back a b uptime_a uptime_b =
    let of_a = facts_of a uptime_a in
    let of_b = facts_of b uptime_b in
    by_clash_names of_a of_b a b
    ∙ ap (filter_map (λ name. clash_at of_a of_b name (get a name) (get b name))) (clash_names_back a b)
    ∙ each_back (λ name. clash_at of_a of_b name (get a name) (get b name))
    (λ name. clash_at of_b of_a name (get b name) (get a name))
    (λ n. clash_back of_a of_b n (get a n) (get b n)) (clash_names b a)
    ∙ sym (by_clash_names of_b of_a b a)

-- ---- the merge

winner_back : (r s : Row) (x : Verdict3) → same_registration r.registration s.registration ≡ false
    → winner r s x ≡ winner s r x
winner_back r s x apart = by x (registration_cmp r.registration s.registration) refl
  where
    by : (x : Verdict3) (o : Ordering) → registration_cmp r.registration s.registration ≡ o
        → winner r s x ≡ winner s r x
    by First Less e = let back = reversed r.registration s.registration Less e in rw (e, back) refl
    by First Greater e = let back = reversed r.registration s.registration Greater e in rw (e, back) refl
    by Second Less e = let back = reversed r.registration s.registration Less e in rw (e, back) refl
    by Second Greater e = let back = reversed r.registration s.registration Greater e in rw (e, back) refl
    by Neither o e = refl
    by First Equal e = let both : true ≡ false = sym (ap is_eq e) ∙ apart in absurd (cc)
    by Second Equal e = let both : true ≡ false = sym (ap is_eq e) ∙ apart in absurd (cc)

no_code : (r : ResolverId) (c : Option (List Insn)) → IsCodeOf r c → program_of r ≡ None → c ≡ None
no_code (Builtin b) None coded e = refl
no_code (Builtin b) (Some c) coded e = absurd coded
no_code (Program id) c coded e = absurd (cc)

module _ (a b : Table) (kept_a : IsTable a) (kept_b : IsTable b) (agree : tables_agree a b ≡ true) where
  -- equal registrations have equal code
  pub one_row : (n : Name) (r s : Row) → get a n ≡ Some r → get b n ≡ Some s
      → same_registration r.registration s.registration ≡ true → r ≡ s
  one_row n r s h k same =
      let is : r.registration ≡ s.registration = registrations_exact r.registration s.registration
      ((Equal-is (registration_cmp r.registration s.registration)).0 same) in
      let code = coded (program_of r.registration.resolver) refl is in
      ap (λ (x : Registration). record { registration = x; code = r.code }) is
      ∙ ap (λ (c : Option (List Insn)). record { registration = s.registration; code = c }) code
    where
      coded : (p : _) → program_of r.registration.resolver ≡ p → r.registration ≡ s.registration → r.code ≡ s.code
      coded None e is =
          no_code r.registration.resolver r.code (kept_a.coded n r h) e
          ∙ sym (no_code s.registration.resolver s.code (kept_b.coded n s k)
          (ap (λ (x : Registration). program_of x.resolver) (sym is) ∙ e))
      coded (Some id) e is =
          two_agree a b kept_a kept_b agree n n r s (inl h) (inr k) id e
          (ap (λ (x : Registration). program_of x.resolver) (sym is) ∙ e)

  merged_back : (n : Name) (r s : Option Row) (x : Verdict3) → get a n ≡ r → get b n ≡ s
      → merged_at r s x ≡ merged_at s r x
  merged_back n None None x h k = refl
  merged_back n None (Some s) x h k = refl
  merged_back n (Some r) None x h k = refl
  merged_back n (Some r) (Some s) x h k = by (same_registration r.registration s.registration) refl
    where
      by : (b : Bool) → same_registration r.registration s.registration ≡ b
          → merged_at (Some r) (Some s) x ≡ merged_at (Some s) (Some r) x
      by true e =
          let turned = sym ((eq_by_cmp_equiv registrations_total).symm r.registration s.registration) ∙ e in
          ap (λ b. if b then Some r else winner r s x) e ∙ ap Some (one_row n r s h k e)
          ∙ sym (ap (λ b. if b then Some s else winner s r x) turned)
      by false e =
          let turned = sym ((eq_by_cmp_equiv registrations_total).symm r.registration s.registration) ∙ e in
          ap (λ b. if b then Some r else winner r s x) e ∙ winner_back r s x e
          ∙ sym (ap (λ b. if b then Some s else winner s r x) turned)

  gone_back : (r s : Option Row) (p q : Bool) (o : Option Row) → unless_gone r s p q o ≡ unless_gone s r q p o
  gone_back r s p q o = by (p && holds r o) (q && holds s o)
    where
      by : (x y : Bool) → (if x || y then None else o) ≡ (if y || x then None else o)
      by true true = refl
      by true false = refl
      by false true = refl
      by false false = refl

  -- the merge is the same from either side
  pub merge_back : (answers : List Verdict3) (gone_a gone_b : List Name)
      → merge a b answers (record { of_a = gone_a; of_b = gone_b })
      ≡ merge b a answers (record { of_a = gone_b; of_b = gone_a })
  merge_back answers gone_a gone_b =
      is_the_merge b a answers (record {
        of_a = gone_b;
        of_b = gone_a;
      }) (merge a b answers (record { of_a = gone_a; of_b = gone_b })) (λ q.
      merge_is a b answers (record { of_a = gone_a; of_b = gone_b }) q
      ∙ gone_back (get a q) (get b q) (is_in q gone_a) (is_in q gone_b)
      (merged_at (get a q) (get b q) (answer_at (clash_names a b) answers q))
      ∙ ap (unless_gone (get b q) (get a q) (is_in q gone_b) (is_in q gone_a))
      (merged_back q (get a q) (get b q) (answer_at (clash_names a b) answers q) refl refl
      ∙ ap (λ names. merged_at (get b q) (get a q) (answer_at names answers q)) (clash_names_back a b)))

-- A table that gets a row, and one that loses a row.
use Rattle.std.proofs.Common.{◌≡◌, ◌+◌, ◌-◌, ◌<◌, ◌≤◌, ◌⊎◌, Bool, true, false, cond, if◌then◌else◌, Option, Some, None, is_some, List, [], ◌∷◌, ◌++◌, reverse, refl, ap, sym, subst, ◌∙◌, inl, inr, arith}
use Rattle.std.proofs.lemmas.List.{reverse-append}
use Rattle.std.specs.Option.{option_map}
use Rattle.std.specs.Ordering.{eq_by_cmp}
use Rattle.std.specs.Cmp.{Equal-is, eq_by_cmp_equiv, tied_itself}
use Rattle.std.specs.FinMap.{get, insert, remove, len, get-insert, get-remove, len-insert, len-remove}
use Rattle.instruction_set.specs.declared.insn.Insn.{Insn}
use Rattle.clash_record.specs.declared.registrations.ProgramId.{ProgramId}
use Rattle.clash_record.specs.declared.registrations.ResolverId.{ResolverId}
use Rattle.clash_record.specs.declared.registrations.ResolverId.TheVariants.{Builtin, Program}
use Rattle.clash_record.specs.declared.registrations.Registration.{Registration}
use Rattle.clash_record.specs.Orders.{name_cmp, id_cmp}
use Rattle.clash_record.specs.laws.Orders.{names_total, names_exact, ids_total, ids_exact}
use Rattle.upload_store.specs.Programs.{Programs, programs_by}
use Rattle.clash_record.specs.Name.{Name}
use Rattle.partition_table.specs.declared.programs.Kept.{Kept}
use Rattle.partition_table.specs.Tables.{Row, Table, IsCodeOf, most_names, program_of, code_for, row_for, same_id}
use Rattle.partition_table.specs.model.Keeping.{IsNamed, IsHeld, IsKept, kept_code, rows_kept, rows_naming, is_of, with_code, has_room_for}
use Rattle.partition_table.specs.Views.{table_by}
use Rattle.upload_store.specs.laws.Mapped.{ChangesAt, made_inserted, made_removed}
use Rattle.partition_table.proofs.Maps.{made_alike, get-insert_same, remove_insert}
use Rattle.partition_table.proofs.Counts.{naming_more, few_naming}
use Rattle.partition_table.proofs.Held.{IsLookedUp, get_row, same_id_is, same_id_from, named_program}

-- what programs have under an id, once they have this code under the resolver's
pub get-with_code : (programs : Programs) (r : ResolverId) (c : Option (List Insn)) (id : ProgramId) → IsCodeOf r c
    → get (with_code r c programs) id ≡ (if same_id (program_of r) (Some id) then c else get programs id)
get-with_code programs (Builtin b) c id coded = refl
get-with_code programs (Program p) None id coded = absurd coded
get-with_code programs (Program p) (Some c) id coded =
    get-insert ids_total programs p c id
    ∙ ap (λ b. cond b (Some c) (get programs id)) ((eq_by_cmp_equiv ids_total).symm id p)

-- one more row
module _ (programs : Programs) (table : Table) (held : IsHeld programs table) (looked : IsLookedUp programs table)
    (name : Name) (row : Row) (new : get table name ≡ None) (room : len table < most_names)
    (coded : IsCodeOf row.registration.resolver row.code)
    (fits : has_room_for programs row.registration.resolver row.code) where
  abbrev after : Programs
  after = with_code row.registration.resolver row.code programs

  -- a resolver of a held row has its code as before
  same_code_for : (r : ResolverId) → IsCodeOf r (code_for programs r) → code_for after r ≡ code_for programs r
  same_code_for (Builtin b) there = refl
  same_code_for (Program p) there =
      get-with_code programs row.registration.resolver row.code p coded
      ∙ by (same_id (program_of row.registration.resolver) (Some p)) refl
    where
      none_there : (c : Option (List Insn)) → IsCodeOf (Program p) c → c ≡ None → ⊥
      none_there None there e = there
      none_there (Some c) there e = absurd (cc)

      own : (get programs p ≡ None) ⊎ (get programs p ≡ row.code) → row.code ≡ get programs p
      own (inl none) = absurd (none_there (get programs p) there none)
      own (inr same) = sym same

      by : (b : Bool) → same_id (program_of row.registration.resolver) (Some p) ≡ b
          → (if b then row.code else get programs p) ≡ get programs p
      by true e =
          let ids = same_id_is (program_of row.registration.resolver) (Some p) e in
          let is : ids.0 ≡ p = let h = ids.2 in cc in
          let named : row.registration.resolver ≡ Program p =
          named_program row.registration.resolver p (ids.1 ∙ ap Some is) in
          own (subst (λ r. has_room_for programs r row.code) named fits)
      by false e = refl

  own_code : (r : ResolverId) (c : Option (List Insn)) → IsCodeOf r c → code_for (with_code r c programs) r ≡ c
  own_code (Builtin b) None h = refl
  own_code (Builtin b) (Some c) h = absurd h
  own_code (Program p) c h =
      get-with_code programs (Program p) c p h ∙ ap (λ b. if b then c else get programs p) (same_id_from p)

  own_row : row_for after row.registration ≡ row
  own_row =
      ap (λ (c : Option (List Insn)). record { registration = row.registration; code = c })
      (own_code row.registration.resolver row.code coded)

  -- a held row is looked up as before
  same_row : (q : Name) (r : Row) → get table q ≡ Some r → row_for after r.registration
      ≡ row_for programs r.registration
  same_row q r h =
      let there = subst (λ (x : Row). IsCodeOf r.registration.resolver x.code) (looked q r h) (held.coded q r h) in
      ap (λ (c : Option (List Insn)). record { registration = r.registration; code = c })
      (same_code_for r.registration.resolver there)

  still_there : (q : Name) (r : Row) → get table q ≡ Some r → get (insert table name row) q ≡ Some r
  still_there q r h = get-insert names_total table name row q ∙ by (eq_by_cmp name_cmp q name) refl
    where
      by : (b : Bool) → eq_by_cmp name_cmp q name ≡ b → cond b (Some row) (get table q) ≡ Some r
      by true e =
          let is : q ≡ name = names_exact q name ((Equal-is (name_cmp q name)).0 e) in
          let both : None ≡ Some r = sym new ∙ ap (get table) (sym is) ∙ h in absurd (cc)
      by false e = h

  pub held_more : IsHeld after (insert table name row)
  held_more = record {
    few = omega (
      arith,
      len-insert names_total table name row
          ∙ ap (λ b. cond b (len table) (len table + 1)) (ap is_some new),
    );
    coded = λ q r h. by q r (eq_by_cmp name_cmp q name) (sym (get-insert names_total table name row q) ∙ h);
    named = λ id c h.
        named_by id c (same_id (program_of row.registration.resolver) (Some id)) refl
        (sym (get-with_code programs row.registration.resolver row.code id coded) ∙ h);
  }
    where
      by : (q : Name) (r : Row) (b : Bool) → cond b (Some row) (get table q) ≡ Some r
          → IsCodeOf r.registration.resolver r.code
      by q r true e = let is : row ≡ r = cc in subst (λ (x : Row). IsCodeOf x.registration.resolver x.code) is coded
      by q r false e = held.coded q r e

      named_by : (id : ProgramId) (c : List Insn) (b : Bool)
          → same_id (program_of row.registration.resolver) (Some id) ≡ b
          → (if b then row.code else get programs id) ≡ Some c → IsNamed (insert table name row) id
      named_by id c true e h =
          let ids = same_id_is (program_of row.registration.resolver) (Some id) e in
          (name, row, get-insert_same names_total table name row, ids.1 ∙ sym ids.2)
      named_by id c false e h =
          let old = held.named id c h in
          (old.0, old.1, still_there old.0 old.1 old.2, old.3)

  -- the entries make the table as before, but for the programs
  made_before : (es : List (Name × Registration)) → table_by programs es ≡ table
      → insert (table_by after es) name (row_for after row.registration) ≡ insert table name row
  made_before es made =
      ap (λ t. insert t name (row_for after row.registration))
      (made_alike names_total names_exact (row_for after) (row_for programs) es
      (λ q x there. same_row q (row_for programs x)
      (ap (λ t. get t q) (sym made) ∙ get_row programs es q ∙ ap (option_map (row_for programs)) there)) ∙ made)
      ∙ ap (insert table name) own_row

  -- the entries with one more make the table with the row
  pub made_more : (es fs : List (Name × Registration)) → table_by programs es ≡ table
      → ChangesAt name_cmp es fs name (Some row.registration) → table_by after fs ≡ insert table name row
  made_more es fs made changes =
      made_inserted names_total (row_for after) names_exact es fs name row.registration changes ∙ made_before es made

  -- so do rows of which this is the last
  pub made_pushed : (rows pushed : List (Name × Registration)) → table_by programs (reverse rows) ≡ table
      → pushed ≡ rows ++ (name, row.registration) ∷ [] → table_by after (reverse pushed) ≡ insert table name row
  made_pushed rows pushed made is =
      ap (λ es. table_by after (reverse es)) is
      ∙ ap (table_by after) (reverse-append rows ((name, row.registration) ∷ []))
      ∙ made_before (reverse rows) made

-- the counts go along
module _ (kept : List (ProgramId × Kept)) (table : Table) (held : IsHeld (programs_by kept_code kept) table)
    (looked : IsLookedUp (programs_by kept_code kept) table)
    (counted : (id : ProgramId) → rows_kept kept id ≡ rows_naming table id)
    (name : Name) (row : Row) (new : get table name ≡ None) (room : len table < most_names) where
  pub few_kept : (id : ProgramId) → rows_kept kept id < most_names
  few_kept id = omega (arith, counted id, few_naming table id, room)

  pub kept_more : (coded : IsCodeOf row.registration.resolver row.code)
      → has_room_for (programs_by kept_code kept) row.registration.resolver row.code → (after : List (ProgramId × Kept))
      → programs_by kept_code after ≡ with_code row.registration.resolver row.code (programs_by kept_code kept)
      → ((id : ProgramId) → rows_kept after id ≡ rows_kept kept id + is_of row.registration.resolver id)
      → (made : Table) → made ≡ insert table name row → IsKept after made
  kept_more coded fits after is more made same =
      subst (IsKept after) (sym same) (record {
        held =
            subst (λ p. IsHeld p (insert table name row)) (sym is)
            (held_more (programs_by kept_code kept) table held looked name row new room coded fits);
        counted = λ id. omega (arith, more id, counted id, naming_more table name row id new);
      })

  -- a row that is taken out again leaves the table
  pub made_back : (es lent fs : List (Name × Registration)) → table_by (programs_by kept_code kept) es ≡ table
      → ChangesAt name_cmp es lent name (Some row.registration) → ChangesAt name_cmp lent fs name None
      → table_by (programs_by kept_code kept) fs ≡ table
  made_back es lent fs made insertion removal =
      let read = row_for (programs_by kept_code kept) in
      made_removed names_total read names_exact lent fs name removal
      ∙ ap (λ t. remove t name) (made_inserted names_total read names_exact es lent name row.registration insertion
      ∙ ap (λ t. insert t name (read row.registration)) made)
      ∙ remove_insert names_total names_exact table name (read row.registration) new

-- one row less
module _ (programs : Programs) (table : Table) (held : IsHeld programs table) (looked : IsLookedUp programs table)
    (name : Name) (row : Row) (there : get table name ≡ Some row) where
  stays : (q : Name) (r : Row) → get (remove table name) q ≡ Some r → get table q ≡ Some r
  stays q r h = by (eq_by_cmp name_cmp q name) (sym (get-remove names_total table name q) ∙ h)
    where
      by : (b : Bool) → cond b None (get table q) ≡ Some r → get table q ≡ Some r
      by true e = absurd (cc)
      by false e = e

  less : len (remove table name) ≤ most_names
  less =
      omega (
        arith,
        held.few,
        len-remove names_total table name
            ∙ ap (λ b. cond b (len table - 1) (len table)) (ap is_some there),
      )

  -- a row that isn't the one taken out is still there
  left : (q : Name) (r : Row) → get table q ≡ Some r → (eq_by_cmp name_cmp q name ≡ true → ⊥)
      → get (remove table name) q ≡ Some r
  left q r h apart = get-remove names_total table name q ∙ by (eq_by_cmp name_cmp q name) refl
    where
      by : (b : Bool) → eq_by_cmp name_cmp q name ≡ b → cond b None (get table q) ≡ Some r
      by true e = absurd (apart e)
      by false e = h

  own : (q : Name) (r : Row) → get table q ≡ Some r → eq_by_cmp name_cmp q name ≡ true → r ≡ row
  own q r h e =
      let is : q ≡ name = names_exact q name ((Equal-is (name_cmp q name)).0 e) in
      let both : Some r ≡ Some row = sym h ∙ ap (get table) is ∙ there in cc

  -- another row names its program, or it names none
  pub held_less : ((id : ProgramId) → program_of row.registration.resolver ≡ Some id → IsNamed (remove table name) id)
      → IsHeld programs (remove table name)
  held_less others = record {
    few = less;
    coded = λ q r h. held.coded q r (stays q r h);
    named = λ id c h. let old = held.named id c h in by id old.0 old.1 old.2 old.3 (eq_by_cmp name_cmp old.0 name) refl;
  }
    where
      by : (id : ProgramId) (q : Name) (r : Row) → get table q ≡ Some r → program_of r.registration.resolver ≡ Some id
          → (b : Bool) → eq_by_cmp name_cmp q name ≡ b → IsNamed (remove table name) id
      by id q r h p true e =
          others id (ap (λ (x : Row). program_of x.registration.resolver) (sym (own q r h e)) ∙ p)
      by id q r h p false e = (q, r, left q r h (λ t. absurd (cc)), p)

  -- no other row names its program, which goes
  module _ (id : ProgramId) (named : program_of row.registration.resolver ≡ Some id)
      (alone : (q : Name) (r : Row) → get (remove table name) q ≡ Some r → program_of r.registration.resolver ≡ Some id
      → ⊥) where
    same_code_for_left : (r : ResolverId) → (program_of r ≡ Some id → ⊥)
        → code_for (remove programs id) r ≡ code_for programs r
    same_code_for_left (Builtin b) apart = refl
    same_code_for_left (Program p) apart = get-remove ids_total programs id p ∙ by (eq_by_cmp id_cmp p id) refl
      where
        by : (b : Bool) → eq_by_cmp id_cmp p id ≡ b → cond b None (get programs p) ≡ get programs p
        by true e = absurd (apart (ap Some (ids_exact p id ((Equal-is (id_cmp p id)).0 e))))
        by false e = refl

    pub held_released : IsHeld (remove programs id) (remove table name)
    held_released = record {
      few = less;
      coded = λ q r h. held.coded q r (stays q r h);
      named = λ i c h. by i c (eq_by_cmp id_cmp i id) refl (sym (get-remove ids_total programs id i) ∙ h);
    }
      where
        by_name : (i : ProgramId) (q : Name) (r : Row) → get table q ≡ Some r
            → program_of r.registration.resolver ≡ Some i
            → (eq_by_cmp id_cmp i id ≡ false) → (b : Bool) → eq_by_cmp name_cmp q name ≡ b
            → IsNamed (remove table name) i
        by_name i q r h p apart true e =
            let same : Some i ≡ Some id = sym p ∙ ap (λ (x : Row). program_of x.registration.resolver) (own q r h e)
            ∙ named in
            let is : i ≡ id = cc in
            let tied = (Equal-is (id_cmp i id)).1 (ap (id_cmp i) (sym is) ∙ tied_itself ids_total i) in
            let both : true ≡ false = sym tied ∙ apart in absurd (cc)
        by_name i q r h p apart false e = (q, r, left q r h (λ t. absurd (cc)), p)

        by : (i : ProgramId) (c : List Insn) (b : Bool) → eq_by_cmp id_cmp i id ≡ b
            → cond b None (get programs i) ≡ Some c
            → IsNamed (remove table name) i
        by i c true e h = absurd (cc)
        by i c false e h =
            let old = held.named i c h in
            by_name i old.0 old.1 old.2 old.3 e (eq_by_cmp name_cmp old.0 name) refl

    pub made_released : (n : List (Name × Registration)) → table_by programs n ≡ remove table name
        → table_by (remove programs id) n ≡ remove table name
    made_released n made =
        made_alike names_total names_exact (row_for (remove programs id)) (row_for programs) n
        (λ q x found. ap (λ (c : Option (List Insn)). record { registration = x; code = c })
        (same_code_for_left x.resolver (alone q (row_for programs x)
        (ap (λ t. get t q) (sym made) ∙ get_row programs n q ∙ ap (option_map (row_for programs)) found))))
        ∙ made

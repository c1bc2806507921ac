use Rattle.std.proofs.Common.{◌≤◌, All, true, false, length, map, inl, ap, sym, subst, ◌∙◌, arith}
use Rattle.std.proofs.lemmas.Bool.{lt-leb, le-leb}
use Rattle.partition_table.specs.Tables.{has_first, most_names}
use Rattle.partition_table.specs.model.Coding.{IsCoded}
use Rattle.partition_table.proofs.Coded.{clashes_coded}
use Rattle.partition_table.proofs.EitherWay.{union_by_alone}
use Rattle.partition_table.proofs.OneClash.{few_clashes, alone_few, fits_by_count, keys_length}
use Rattle.partition_table.proofs.clashing.compare_within.Goals.{After-walk, After-len-2}
use Rattle.partition_table.proofs.clashing.compare_within.Goals as goal

pub overflow_add-names : goal.overflow_add-names
overflow_add-names c =
    omega (
      arith,
      c.len.ensures.count,
      c.len.ensures.kept.few,
      c.in_ok-walked.ensures.alone,
      alone_few c.args.half_b.table.now c.args.half_a.table.now c.in_ok-walked.ensures.kept.0,
    )

pub returns-then-names-clause-answer : goal.returns-then-names-clause-answer
returns-then-names-clause-answer c = inl (
    fits_by_count c.args.limit.names c.args.half_a.table.now c.args.half_b.table.now _
    (union_by_alone c.args.half_a.table.now c.args.half_b.table.now c.len.result c.in_ok-walked.walked.alone c.len.ensures.count c.in_ok-walked.ensures.alone)
    (sym c.agrees_with.ensures ∙ c.if-not-agrees_with.false) false
    (lt-leb _ _ (omega (arith, c.if-names.true, c.names.ensures)))
    )

pub overflow_sub-alone_b : goal.overflow_sub-alone_b
overflow_sub-alone_b c =
    let a = c.args.half_a.table.now in
    let b = c.args.half_b.table.now in
    omega (
      arith,
      c.len-2.ensures.count,
      keys_length a,
      union_by_alone a b c.len.result c.in_ok-walked.walked.alone c.len.ensures.count c.in_ok-walked.ensures.alone,
    )

pub compared-requires-clause-few : goal.compared-requires-clause-few
compared-requires-clause-few c =
    subst (λ n. n ≤ most_names) (sym (ap length c.in_ok-walked.ensures.clashes))
    (few_clashes c.args.half_a.table.now c.args.half_b.table.now c.args.half_a.uptime c.args.half_b.uptime c.in_ok-walked.ensures.kept.0)

pub compared-requires-clause-coded : goal.compared-requires-clause-coded
compared-requires-clause-coded c =
    subst (All (IsCoded c.in_ok-programs.programs)) (sym c.in_ok-walked.ensures.clashes)
    (clashes_coded c.args.half_a.table.now c.args.half_b.table.now c.in_ok-walked.ensures.kept.0 c.in_ok-walked.ensures.kept.1
    c.in_ok-programs.programs c.in_ok-programs.ensures c.args.half_a.uptime c.args.half_b.uptime)

pub returns-clause-answer : goal.returns-clause-answer
returns-clause-answer c =
    fits_by_count c.args.limit.names c.args.half_a.table.now c.args.half_b.table.now _
    (union_by_alone c.args.half_a.table.now c.args.half_b.table.now c.len.result c.in_ok-walked.walked.alone c.len.ensures.count c.in_ok-walked.ensures.alone)
    (sym c.agrees_with.ensures ∙ c.if-not-agrees_with.false) true
    (le-leb _ _ (omega (arith, c.if-names.false, c.names.ensures)))

pub returns-clause-compared : goal.returns-clause-compared
returns-clause-compared c =
    let a = c.args.half_a.table.now in
    let b = c.args.half_b.table.now in
    let found = c.in_ok-walked.ensures.clashes in
    record {
      list = c.in_ok-compared.ensures.clashes ∙ found;
      first_of_a = c.in_ok-compared.ensures.first ∙ c.in_ok-walked.ensures.first ∙ ap (map (has_first a)) found;
      alone_a = c.in_ok-compared.ensures.alone.0 ∙ c.in_ok-walked.ensures.alone;
      alone_b = c.in_ok-compared.ensures.alone.1 ∙ omega (
        arith,
        c.len-2.ensures.count,
        keys_length a,
        union_by_alone a b c.len.result c.in_ok-walked.walked.alone c.len.ensures.count c.in_ok-walked.ensures.alone,
      );
    }

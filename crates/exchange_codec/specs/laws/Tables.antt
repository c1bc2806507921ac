-- The rows of a table that are read are spelled so, and what is spelled so is read.
use Rattle.std.proofs.Common.{◌≡◌, ℕ, List, [], ◌++◌, length, Ok, sym, ap, subst, ◌∙◌, append_assoc, append-nil, arith, lit<, refl}
use Rattle.std.specs.List.{flat_map}
use Rattle.std.specs.Int.{w32, to_le_bytes}
use Rattle.partition_table.specs.Tables.{most_names}
use Rattle.exchange_codec.specs.Reading.{count_at, many_at, ended}
use Rattle.exchange_codec.specs.Rows.{RowText, row_bytes, row_at, IsRow}
use Rattle.exchange_codec.specs.Tables.{table_bytes, IsTableText, rows_at, whole_rows}
use Rattle.exchange_codec.specs.laws.Fields.{IsBytes, bind_ok, Takes, Takes-then, count_takes, count_again, ended_ok}
use Rattle.exchange_codec.specs.laws.Many.{many_take, many_again}
use Rattle.exchange_codec.specs.laws.Rows.{row_takes, row_again}

pub rows_take : (bytes : List ℕ) (x : List RowText × List ℕ) → IsBytes bytes → rows_at bytes ≡ Ok x
    → Takes bytes (table_bytes x.0) x.1 × IsTableText x.0
unfolding rows_at
rows_take bytes x fits e =
    let c = bind_ok (count_at most_names bytes) (λ count. many_at row_at count.0 count.1) x e in
    let tc = count_takes most_names bytes c.0.0 c.0.1 fits c.1 in
    let tm = many_take row_at row_bytes IsRow row_takes c.0.0 c.0.1 x tc.0.rest_fits c.2 in
    let counted : Takes bytes (to_le_bytes w32 (length x.0)) c.0.1 = subst (λ (k : ℕ). Takes bytes (to_le_bytes w32 k) c.0.1) (sym tm.1) tc.0 in (
      Takes-then bytes (to_le_bytes w32 (length x.0)) c.0.1 (flat_map row_bytes x.0) x.1 counted tm.0,
      record { few = omega (arith, tm.1, tc.1); each = tm.2 },
    )

pub rows_again : (rows : List RowText) (rest : List ℕ) → IsTableText rows → rows_at (table_bytes rows ++ rest) ≡ Ok (rows, rest)
unfolding rows_at
rows_again rows rest fits =
    ap rows_at (append_assoc (to_le_bytes w32 (length rows)) (flat_map row_bytes rows) rest)
    ∙ rw (
      count_again most_names (length rows) (flat_map row_bytes rows ++ rest) fits.few (lit< tt),
      many_again row_at row_bytes IsRow row_again rows rest fits.each,
    ) refl

pub rows_spelled : (bytes : List ℕ) (rows : List RowText) → IsBytes bytes → whole_rows bytes ≡ Ok rows
    → IsTableText rows × (bytes ≡ table_bytes rows)
unfolding whole_rows
rows_spelled bytes rows fits e =
    let a = bind_ok (rows_at bytes) ended rows e in
    let g = ended_ok a.0 rows a.2 in
    let k = rows_take bytes a.0 fits a.1 in
    let whole : bytes ≡ table_bytes a.0.0 =
    k.0.parts ∙ ap (λ (r : List ℕ). table_bytes a.0.0 ++ r) g.1 ∙ append-nil (table_bytes a.0.0) in
    subst (λ (t : List RowText). IsTableText t × (bytes ≡ table_bytes t)) g.0 (k.1, whole)

pub rows_read : (rows : List RowText) → IsTableText rows → whole_rows (table_bytes rows) ≡ Ok rows
unfolding whole_rows
rows_read rows fits =
    let all : rows_at (table_bytes rows) ≡ Ok (rows, []) =
    ap rows_at (sym (append-nil (table_bytes rows))) ∙ rows_again rows [] fits in
    rw all refl

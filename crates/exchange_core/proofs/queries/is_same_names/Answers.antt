use Rattle.std.proofs.Common.{◌≡◌, List, [], ◌∷◌, ◌&&◌, refl, ◌∙◌, nat_eq}
use Rattle.std.specs.Cmp.Lexicographic.{pointwise, texts_ties}
use Rattle.clash_record.specs.Name.{Name}
use Rattle.partition_table.specs.Tables.{is_same_name}
use Rattle.exchange_core.proofs.queries.is_same_names.Goals as goal

-- lists of names are compared alike by either test of two names
alike : (a b : List Name) → pointwise (pointwise nat_eq) a b ≡ pointwise is_same_name a b
alike [] [] = refl
alike [] (n ∷ b) = refl
alike (m ∷ a) [] = refl
alike (m ∷ a) (n ∷ b) = λ i. texts_ties m n i && alike a b i

pub returns : goal.returns
returns c = c.eq.ensures ∙ alike c.args.a.now c.args.b.now

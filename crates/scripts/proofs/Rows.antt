-- Rows that were shown one after another.
use Rattle.std.proofs.Common.{◌≡◌, ℕ, List, [], ◌∷◌, ◌++◌, Option, Result, subst, sym, append_assoc, append-nil, ◌∙◌, ap}
use Rattle.std.specs.List.{flat_map}
use Rattle.std.proofs.lemmas.List.{flat_map_more}
use Rattle.device.specs.Sending.{Sends, SendsOn}

-- the text of these items was sent, and of all of them the rest is left
pub record AreSent {A E X : Type 0} (text : X → List ℕ) (all rest : List X) (sent : Result A E)
    (old new : Option (List ℕ)) (result : Result A E) : Type 0 where
  pub items : List X
  pub split : items ++ rest ≡ all
  pub on : SendsOn sent old new (flat_map text items) result

pub nothing_sent : {A E X : Type 0} (text : X → List ℕ) (all rest : List X) (sent : Result A E) (old : Option (List ℕ))
    → rest ≡ all → AreSent text all rest sent old old sent
nothing_sent text all rest sent old e = record {
  items = [];
  split = e;
  on = λ start before h. subst (λ told. Sends start old told sent) (sym (append-nil before)) h;
}

pub one_more : {A E X : Type 0} (text : X → List ℕ) (all rest after : List X) (x : X) (sent : Result A E)
    (old new newest : Option (List ℕ)) (result further : Result A E)
    → AreSent text all rest sent old new result → rest ≡ x ∷ after → SendsOn result new newest (text x) further
    → AreSent text all after sent old newest further
one_more text all rest after x sent old new newest result further so_far e on = record {
  items = so_far.items ++ x ∷ [];
  split = append_assoc so_far.items (x ∷ []) after ∙ ap (λ left. so_far.items ++ left) (sym e) ∙ so_far.split;
  on = λ start before h. subst (λ told. Sends start newest told further) (flat_map_more text before so_far.items x)
      (on start (before ++ flat_map text so_far.items) (so_far.on start before h));
}

pub all_sent : {A E X : Type 0} (text : X → List ℕ) (all rest : List X) (sent : Result A E)
    (old new : Option (List ℕ)) (result : Result A E)
    → AreSent text all rest sent old new result → rest ≡ [] → SendsOn sent old new (flat_map text all) result
all_sent text all rest sent old new result so_far e =
    subst (λ items. SendsOn sent old new (flat_map text items) result)
    (sym (append-nil so_far.items) ∙ ap (λ left. so_far.items ++ left) (sym e) ∙ so_far.split) so_far.on

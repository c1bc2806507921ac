-- Settling: each clash without a ruling gets the ruling of one round.
use Rattle.std.specs.Prelude.{◌≡◌, ℕ, suc, List, [], ◌∷◌, ◌++◌, length, map, reverse, Option, Some, None, slice_get}
use Rattle.std.specs.Option.{option_map, option_map_or}
use Rattle.partition_table.specs.Tables.{Clash, answer, word_of}
use Rattle.exchange_core.specs.declared.side.Side as declared
use Rattle.exchange_law.specs.Sides.{Judged, Heard, Exchange, Side, clashes_of}
use Rattle.exchange_law.specs.Calls.{Call, Take}
use Rattle.exchange_core.specs.Shown.{shown, calls, limit_of}
use Rattle.exchange_core.specs.Finished.{Finished, clashes_merged}

-- the round at whose words sides settle, so that both take the same rulings
abbrev pub the_round : ℕ
the_round = 0

-- what the resolver of clash k of n answers at the round's word
abbrev pub judged_in : ℕ → ℕ → ℕ → ℕ → Clash → Judged
judged_in seed round n k clash =
    record { word = word_of seed round n k; answer = answer clash (word_of seed round n k) }

-- each place without a ruling gets that of its clash. The lists begin at clash k
abbrev pub filled : (ℕ → Clash → Judged) → ℕ → List Clash → List (Option Judged) → List (Option Judged)
filled judge k (clash ∷ clashes) (None ∷ rulings) = Some (judge k clash) ∷ filled judge (suc k) clashes rulings
filled judge k (clash ∷ clashes) (Some judged ∷ rulings) = Some judged ∷ filled judge (suc k) clashes rulings
filled judge k [] rulings = rulings
filled judge k (clash ∷ clashes) [] = []

-- the clashes without a ruling, by their places, with what they get
abbrev pub lacking : (ℕ → Clash → Judged) → ℕ → List Clash → List (Option Judged) → List (ℕ × Judged)
lacking judge k (clash ∷ clashes) (None ∷ rulings) = (k, judge k clash) ∷ lacking judge (suc k) clashes rulings
lacking judge k (clash ∷ clashes) (Some judged ∷ rulings) = lacking judge (suc k) clashes rulings
lacking judge k [] rulings = []
lacking judge k (clash ∷ clashes) [] = []

-- how these clashes of an exchange are judged in a round
abbrev pub judge_in : ℕ → List Clash → Exchange → ℕ → Clash → Judged
judge_in round all exchange = judged_in exchange.seed round (length all)

-- the clashes of the exchange without a ruling
abbrev pub lacking_in : ℕ → List Clash → Exchange → List (ℕ × Judged)
lacking_in round all exchange =
    option_map_or (λ heard. lacking (judge_in round all exchange) 0 all heard.rulings) exchange.heard []

abbrev pub lacking_of : ℕ → Side → List (ℕ × Judged)
lacking_of round side = option_map_or (lacking_in round (clashes_of side)) side.exchange []

abbrev pub settled_heard : (ℕ → Clash → Judged) → List Clash → Heard → Heard
settled_heard judge all heard = record heard { rulings = filled judge 0 all heard.rulings }

-- the exchange with a ruling for each of its clashes
abbrev pub settled_exchange : ℕ → List Clash → Exchange → Exchange
settled_exchange round all exchange =
    record exchange { heard = option_map (settled_heard (judge_in round all exchange) all) exchange.heard }

-- the side with a ruling for each clash of its open exchange
abbrev pub settled : ℕ → Side → Side
settled round side =
    record side { exchange = option_map (settled_exchange round (clashes_of side)) side.exchange }

-- the number of the open exchange
abbrev pub number_in : Side → ℕ
number_in side = option_map_or (λ exchange. exchange.number) side.exchange 0

-- the calls that take the rulings, the earliest first
abbrev pub settle_calls : ℕ → Side → List Call
settle_calls round side = map (λ p. Take (number_in side) p.0 p.1) (lacking_of round side)

-- the side is settled, and each ruling that it lacked was taken by a call
pub record IsSettled (old : declared.Side) (round : ℕ) (new : declared.Side) : Type 0 where
  pub state : shown new ≡ settled round (shown old)
  pub written : calls new ≡ reverse (settle_calls round (shown old)) ++ calls old
  pub same_limit : limit_of new ≡ limit_of old

-- each ruling of a finished exchange is that of one round
abbrev pub IsOfRound : ℕ → Finished → Type 0
IsOfRound round f =
    (k : ℕ) (judged : Judged) → slice_get f.rulings k ≡ Some judged →
    judged.word ≡ word_of f.seed round (length (clashes_merged f)) k

-- The change of the open exchange by a call.
use Rattle.std.specs.Prelude.{ℕ}
use Rattle.std.specs.Option.{option_map}
use Rattle.exchange_law.specs.Sides.{Judged, Heard, Exchange, put_ruling}

-- with a ruling of clash k, unless it has one
abbrev pub with_ruling : ℕ → Judged → Exchange → Exchange
with_ruling k judged exchange =
    record exchange {
      heard = option_map (λ (heard : Heard). record heard {
        rulings = put_ruling heard.rulings k judged;
      }) exchange.heard;
    }

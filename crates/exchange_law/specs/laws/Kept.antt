-- The invariant of every step.
use Rattle.std.proofs.Common.{◌≡◌, ◌⊎◌, ℕ, zero, suc, Bool, true, false, if◌then◌else◌, List, [], ◌∷◌, length, replicate, Option, Some, None, is_none, slice_get, slice_set, unwrap_or, refl, ap, inl, inr, ⊎_elim, length-set, is_some, subst, sym}
use Rattle.clash_record.specs.declared.side_id.SideId.{SideId}
use Rattle.clash_record.specs.declared.side_id.SideId.TheVariants.{A, B}
use Rattle.clash_record.specs.Name.{Name}
use Rattle.partition_table.specs.Tables.{Table, Clash, clashes}
use Rattle.exchange_law.specs.Sides.{Offer, Withdrawals, Judged, Heard, Exchange, Side, is_side, clashes_for, fit_for, is_above, is_lawful, put_ruling}
use Rattle.exchange_law.specs.Calls.{Call, Hear, Take, Hear_list}
use Rattle.exchange_law.specs.Worlds.{Ruling, Past, World, side_of, ruling_at}
use Rattle.exchange_law.specs.laws.Rulings.{Lawful}
use Rattle.exchange_law.specs.laws.Carried.{some_inj}

-- the value is somewhere in the list
abbrev pub Has : {X : Type 0} → List X → X → Type 0
Has xs x = (k : ℕ) × (slice_get xs k ≡ Some x)

abbrev pub other : SideId → SideId
other A = B
other B = A

abbrev pub made : SideId → ℕ → ℕ → ℕ → Table → Offer
made id number seed uptime table = record { side = id; number = number; seed = seed; uptime = uptime; table = table }

abbrev pub made_list : SideId → ℕ → List Name → Withdrawals
made_list id number names = record { side = id; number = number; names = names }

-- no number up to this one is begun again
abbrev pub Covers : Option ℕ → ℕ → Type 0
Covers latest number = is_above number latest ≡ false

-- the clashes of the table that a side offered with the one that it heard
abbrev pub clashes_with : Offer → Heard → List Clash
clashes_with ours heard = clashes_for ours.side ours.table ours.uptime heard.table heard.uptime

-- what grows

pub record Grows (past more : Past) : Type 0 where
  pub made_still : (offer : Offer) → Has past.offers offer → Has more.offers offer
  pub list_still : (l : Withdrawals) → Has past.lists l → Has more.lists l
  pub found_still : (number k : ℕ) (ruling : Ruling) → ruling_at number k past.rulings ≡ Some ruling →
      ruling_at number k more.rulings ≡ Some ruling

pub grows_refl : (past : Past) → Grows past past
grows_refl past = record { made_still = λ _ h. h; list_still = λ _ h. h; found_still = λ _ _ _ e. e }

-- what is held at a place is a lawful ruling of the map, of the clash of that place
pub record Taken (all : List Clash) (seed number k : ℕ) (judged : Judged) (past : Past) : Type 0 where
  pub ruling : Ruling
  pub found : ruling_at number k past.rulings ≡ Some ruling
  pub same : ruling.judged ≡ judged
  pub lawful : Lawful all seed k judged ruling.clash

pub taken_grows : {all : List Clash} {seed number k : ℕ} {judged : Judged} {past more : Past} → Grows past more →
    Taken all seed number k judged past → Taken all seed number k judged more
taken_grows g t = record { ruling = t.ruling; found = g.found_still _ _ _ t.found; same = t.same; lawful = t.lawful }

-- the other's offer was heard, of the same number and seed, and rulings of the map were taken
pub record HeardFits (ours : Offer) (heard : Heard) (past : Past) : Type 0 where
  pub theirs : Has past.offers (made (other ours.side) ours.number ours.seed heard.uptime heard.table)
  pub fit : fit_for ours.side ours.table heard.table ≡ true
  pub places : length heard.rulings ≡ length (clashes_with ours heard)
  pub taken : (k : ℕ) (judged : Judged) → slice_get heard.rulings k ≡ Some (Some judged) →
      Taken (clashes_with ours heard) ours.seed ours.number k judged past

abbrev pub our_offer : SideId → Table → Exchange → Offer
our_offer id own exchange = made id exchange.number exchange.seed exchange.uptime own

-- an open side's offer is among those made, with its table, and so are its list, once it is closed, and the list that
-- it heard
pub record OpenFits (id : SideId) (own : Table) (exchange : Exchange) (past : Past) : Type 0 where
  pub ours : Has past.offers (our_offer id own exchange)
  pub heard : (heard : Heard) → exchange.heard ≡ Some heard → HeardFits (our_offer id own exchange) heard past
  pub our_list : exchange.closed ≡ true → Has past.lists (made_list id exchange.number exchange.withdrawn)
  pub no_list : exchange.closed ≡ false → (l : Withdrawals) → Has past.lists l → l.side ≡ id →
      l.number ≡ exchange.number → ⊥
  pub their_list : (names : List Name) → exchange.their_list ≡ Some names →
      Has past.lists (made_list (other id) exchange.number names)

pub record SideFits (id : SideId) (side : Side) (past : Past) : Type 0 where
  pub same_id : side.id ≡ id
  pub covers : (offer : Offer) → Has past.offers offer → offer.side ≡ id → Covers side.latest offer.number
  pub covers_list : (l : Withdrawals) → Has past.lists l → l.side ≡ id → Covers side.latest l.number
  pub open_fits : (exchange : Exchange) → side.exchange ≡ Some exchange → OpenFits id side.table exchange past

-- a side makes one offer and one list of a number
pub record OneEach (past : Past) : Type 0 where
  pub one_offer : (o p : Offer) → Has past.offers o → Has past.offers p → o.side ≡ p.side → o.number ≡ p.number → o ≡ p
  pub one_list : (l m : Withdrawals) → Has past.lists l → Has past.lists m → l.side ≡ m.side → l.number ≡ m.number →
      l ≡ m

-- a ruling is lawful, of clash k of two offers of its number with one seed
pub record RulingFits (number k : ℕ) (ruling : Ruling) (past : Past) : Type 0 where
  pub seed : ℕ
  pub a : Table
  pub uptime_a : ℕ
  pub b : Table
  pub uptime_b : ℕ
  pub made_a : Has past.offers (made A number seed uptime_a a)
  pub made_b : Has past.offers (made B number seed uptime_b b)
  pub of_clash : slice_get (clashes a uptime_a b uptime_b) k ≡ Some ruling.clash
  pub lawful : is_lawful (clashes a uptime_a b uptime_b) seed k ruling.judged ≡ true

pub ruling_fits_on : {number k : ℕ} {ruling : Ruling} {past more : Past} → Grows past more → RulingFits number k ruling past →
    RulingFits number k ruling more
ruling_fits_on g f = record {
  seed = f.seed;
  a = f.a;
  uptime_a = f.uptime_a;
  b = f.b;
  uptime_b = f.uptime_b;
  made_a = g.made_still _ f.made_a;
  made_b = g.made_still _ f.made_b;
  of_clash = f.of_clash;
  lawful = f.lawful;
}

module _ {past : Past} (one : OneEach past) (number k : ℕ) (r : Ruling) (fits : RulingFits number k r past) where
  -- the offers of the number are those that an open side made and heard
  pub same_clashes : (id : SideId) (seed uptime other_uptime : ℕ) (own others : Table) →
      Has past.offers (made id number seed uptime own) →
      Has past.offers (made (other id) number seed other_uptime others) →
      (clashes_for id own uptime others other_uptime ≡ clashes fits.a fits.uptime_a fits.b fits.uptime_b) ×
      (seed ≡ fits.seed)
  same_clashes A seed uptime other_uptime own others ours theirs =
      let e = one.one_offer _ _ ours fits.made_a refl refl in
      let g = one.one_offer _ _ theirs fits.made_b refl refl in
      ((λ i. clashes (e i).table (e i).uptime (g i).table (g i).uptime), ap (λ (o : Offer). o.seed) e)
  same_clashes B seed uptime other_uptime own others ours theirs =
      let e = one.one_offer _ _ ours fits.made_b refl refl in
      let g = one.one_offer _ _ theirs fits.made_a refl refl in
      ((λ i. clashes (g i).table (g i).uptime (e i).table (e i).uptime), ap (λ (o : Offer). o.seed) e)

abbrev pub RulingsFit : Past → Type 0
RulingsFit past = (number k : ℕ) (ruling : Ruling) → ruling_at number k past.rulings ≡ Some ruling →
    RulingFits number k ruling past

pub record Sound (w : World) : Type 0 where
  pub fits : (id : SideId) → SideFits id (side_of w id) w.past
  pub one : OneEach w.past
  pub ruled : RulingsFit w.past

-- a ruling that reaches a side is one of the map, of the only offers of its number
pub record IsTold (number k : ℕ) (judged : Judged) (past : Past) : Type 0 where
  pub ruling : Ruling
  pub found : ruling_at number k past.rulings ≡ Some ruling
  pub same : ruling.judged ≡ judged
  pub fits : RulingFits number k ruling past
  pub one : OneEach past

-- the message that a call is handed was sent
abbrev pub IsSent : Past → Call → Type 0
IsSent past (Hear offer) = Has past.offers offer
IsSent past (Take number k judged) = IsTold number k judged past
IsSent past (Hear_list sent) = Has past.lists sent
IsSent past call = Unit {0}

-- tests and options

pub is_idle : {X : Type 0} (o : Option X) → is_none o ≡ true → o ≡ None
is_idle None e = refl
is_idle (Some x) e = cc

pub same_side : (i j : SideId) → is_side i j ≡ true → i ≡ j
same_side A A e = refl
same_side A B e = cc
same_side B A e = cc
same_side B B e = refl

pub other_side : (i j : SideId) → is_side i j ≡ false → j ≡ other i
other_side A A e = cc
other_side A B e = refl
other_side B A e = refl
other_side B B e = cc

pub opposite : (id : SideId) → id ≡ other id → ⊥
opposite A e = cc
opposite B e = cc

pub none_held : (n k : ℕ) (judged : Judged) → slice_get (replicate n None) k ≡ Some (Some judged) → ⊥
none_held zero k judged e = cc
none_held (suc n) zero judged e = cc (some_inj e)
none_held (suc n) (suc k) judged e = none_held n k judged e

if_length : (b : Bool) (xs ys : List (Option Judged)) (n : ℕ) → length xs ≡ n → length ys ≡ n →
    length (if b then xs else ys) ≡ n
if_length true xs ys n p q = p
if_length false xs ys n p q = q

pub length-put_ruling : (rulings : List (Option Judged)) (k : ℕ) (judged : Judged) →
    length (put_ruling rulings k judged) ≡ length rulings
length-put_ruling rulings k judged = if_length _ rulings _ _ refl (length-set rulings k _)

-- an element after a write is what was written, or stood there before
pub at_set : {X : Type 0} (xs : List X) (i k : ℕ) (y z : X) → slice_get (slice_set xs i y) k ≡ Some z →
    ((k ≡ i) × (y ≡ z)) ⊎ (slice_get xs k ≡ Some z)
at_set [] i k y z e = inr e
at_set (x ∷ xs) zero zero y z e = inl (refl, some_inj e)
at_set (x ∷ xs) zero (suc k) y z e = inr e
at_set (x ∷ xs) (suc i) zero y z e = inr e
at_set (x ∷ xs) (suc i) (suc k) y z e = ⊎_elim (λ h. inl (ap suc h.0, h.1)) inr (at_set xs i k y z e)

-- a ruling more at its place
pub one_more_ruling : (P : ℕ → Judged → Type 0) (rulings : List (Option Judged)) (k : ℕ) (judged : Judged) →
    P k judged → ((j : ℕ) (held : Judged) → slice_get rulings j ≡ Some (Some held) → P j held) → (j : ℕ)
    (held : Judged) → slice_get (put_ruling rulings k judged) j ≡ Some (Some held) → P j held
one_more_ruling P rulings k judged here before j held at =
    by_test (is_some (unwrap_or (slice_get rulings k) None)) at
  where
    by_test : (b : Bool) → slice_get (if b then rulings else slice_set rulings k (Some judged)) j ≡ Some (Some held) →
        P j held
    by_test true at = before j held at
    by_test false at = ⊎_elim
        (λ e. subst (λ (x : ℕ × Judged). P x.0 x.1) (λ i. (sym e.0 i, some_inj e.1 i)) here)
        (before j held)
        (at_set rulings k j _ _ at)

-- nothing of this side is new
pub record NothingNew (id : SideId) (past more : Past) : Type 0 where
  pub offers_were : (offer : Offer) → Has more.offers offer → offer.side ≡ id → Has past.offers offer
  pub lists_were : (l : Withdrawals) → Has more.lists l → l.side ≡ id → Has past.lists l

pub heard_grows : {ours : Offer} {heard : Heard} {past more : Past} → Grows past more → HeardFits ours heard past →
    HeardFits ours heard more
heard_grows g h = record {
  theirs = g.made_still _ h.theirs;
  fit = h.fit;
  places = h.places;
  taken = λ k judged e. taken_grows g (h.taken k judged e);
}

pub side_fits_on : {id : SideId} {side : Side} {past more : Past} → Grows past more → NothingNew id past more →
    SideFits id side past → SideFits id side more
side_fits_on g n h = record {
  same_id = h.same_id;
  covers = λ o m is. h.covers o (n.offers_were o m is) is;
  covers_list = λ l m is. h.covers_list l (n.lists_were l m is) is;
  open_fits = λ exchange e. let f = h.open_fits exchange e in record {
    ours = g.made_still _ f.ours;
    heard = λ heard e. heard_grows g (f.heard heard e);
    our_list = λ e. g.list_still _ (f.our_list e);
    no_list = λ e l m is. f.no_list e l (n.lists_were l m is) is;
    their_list = λ names e. g.list_still _ (f.their_list names e);
  };
}

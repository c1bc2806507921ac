-- Rows that are read are spelled so, and what is spelled so is read.
use Rattle.std.proofs.Common.{◌≡◌, ℕ, zero, suc, ◌^◌, ◌<◌, ◌≤◌, false, ltb, List, [], ◌∷◌, ◌++◌, length, take, drop, Ok, refl, sym, ap, subst, ◌∙◌, append_assoc, arith, lit<}
use Rattle.std.specs.Int.{w32, w64, to_le_bytes}
use Rattle.std.proofs.lemmas.Bool.{ltb-false, le-ltb}
use Rattle.std.proofs.lemmas.List.{take_at, drop_at, take-append-drop, length-append, length-take}
use Rattle.clash_record.specs.declared.registrations.Owner.{Owner}
use Rattle.clash_record.specs.declared.registrations.Terms.{Terms}
use Rattle.clash_record.specs.declared.registrations.Builtin.TheVariants.{Exit, Notify, NotifyAll}
use Rattle.exchange_codec.specs.declared.fault.FieldFault.TheVariants as wrongs
use Rattle.refusals.specs.Answers.{◌>>=◌}
use Rattle.exchange_codec.specs.Reading.{number_at, bytes_at, count_at}
use Rattle.exchange_codec.specs.Names.{name_bytes, name_at}
use Rattle.exchange_codec.specs.Rows.{max_code, ResolverText, ByBuiltin, Named, Code, RowText, sized_code, resolver_bytes, owner_bytes, fields_bytes, row_bytes, IsResolver, HasFields, IsRow, resolver_at, owner_at, terms_at, row_at}
use Rattle.exchange_codec.specs.laws.Fields.{IsBytes, IsBytes-drop, IsBytes-rest, bind_ok, guard_ok, ok_is, Takes, Takes-then, wide32, wide64, number_takes, number_again, count_takes, count_again}
use Rattle.exchange_codec.specs.laws.Names.{name_takes, name_again}

-- ---- bytes as they stand

pub bytes_take : (n : ℕ) (bytes : List ℕ) (x : List ℕ × List ℕ) → IsBytes bytes → bytes_at n bytes ≡ Ok x
    → Takes bytes x.0 x.1 × (length x.0 ≡ n)
bytes_take n bytes x fits e =
    let g = guard_ok (ltb (length bytes) n) (record { what = wrongs.Cut; left = length bytes }) (take n bytes, drop n bytes) x e in
    let long : n ≤ length bytes = ltb-false _ _ g.0 in
    subst (λ (y : List ℕ × List ℕ). Takes bytes y.0 y.1 × (length y.0 ≡ n)) g.1
    (record { parts = sym (take-append-drop n bytes); rest_fits = IsBytes-drop n bytes fits }, omega (arith, length-take n bytes))

pub bytes_again : (n : ℕ) (text rest : List ℕ) → length text ≡ n → bytes_at n (text ++ rest) ≡ Ok (text, rest)
bytes_again n text rest e =
    let long : ltb (length (text ++ rest)) n ≡ false = le-ltb _ _ (omega (arith, length-append text rest)) in
    rw (long, take_at text rest n e, drop_at text rest n e) refl

-- ---- code

pub sized_takes : (bytes : List ℕ) (len : ℕ × List ℕ) (code : List ℕ × List ℕ) → IsBytes bytes
    → count_at max_code bytes ≡ Ok len → bytes_at len.0 len.1 ≡ Ok code
    → Takes bytes (sized_code code.0) code.1 × (length code.0 ≤ max_code)
sized_takes bytes len code fits counted read =
    let t0 = count_takes max_code bytes len.0 len.1 fits counted in
    let t1 = bytes_take len.0 len.1 code t0.0.rest_fits read in
    let size = subst (λ (k : ℕ). Takes bytes (to_le_bytes w32 k) len.1) (sym t1.1) t0.0 in
    (Takes-then bytes (to_le_bytes w32 (length code.0)) len.1 code.0 code.1 size t1.0, omega (arith, t0.1, t1.1))

-- ---- owners

pub owner_takes : (bytes : List ℕ) (x : Owner × List ℕ) → IsBytes bytes → owner_at bytes ≡ Ok x
    → Takes bytes (owner_bytes x.0) x.1 × (x.0.node < 2 ^ 32) × (x.0.serial < 2 ^ 32)
unfolding owner_at
owner_takes bytes x fits e =
    let a = bind_ok (number_at w32 bytes) (λ node. number_at w32 node.1 >>= λ serial. Ok (record { node = node.0; serial = serial.0 }, serial.1)) x e in
    let b = bind_ok (number_at w32 a.0.1) (λ serial. Ok (record { node = a.0.0; serial = serial.0 }, serial.1)) x a.2 in
    let t0 = number_takes w32 (2 ^ 32) wide32 bytes a.0.0 a.0.1 fits a.1 in
    let t1 = number_takes w32 (2 ^ 32) wide32 a.0.1 b.0.0 b.0.1 t0.0.rest_fits b.1 in
    let made : Owner × List ℕ = (record { node = a.0.0; serial = b.0.0 }, b.0.1) in
    subst (λ (y : Owner × List ℕ). Takes bytes (owner_bytes y.0) y.1 × (y.0.node < 2 ^ 32) × (y.0.serial < 2 ^ 32)) (ok_is made x b.2)
    (Takes-then bytes (to_le_bytes w32 a.0.0) a.0.1 (to_le_bytes w32 b.0.0) b.0.1 t0.0 t1.0, t0.1, t1.1)

pub owner_again : (o : Owner) (rest : List ℕ) → o.node < 2 ^ 32 → o.serial < 2 ^ 32 → owner_at (owner_bytes o ++ rest) ≡ Ok (o, rest)
unfolding owner_at
owner_again o rest node serial =
    ap owner_at (append_assoc (to_le_bytes w32 o.node) (to_le_bytes w32 o.serial) rest)
    ∙ rw (
      number_again w32 (2 ^ 32) wide32 o.node (to_le_bytes w32 o.serial ++ rest) node,
      number_again w32 (2 ^ 32) wide32 o.serial rest serial,
    ) refl

-- ---- all of a registration but its resolver

terms_takes : (bytes : List ℕ) (x : Terms × List ℕ) → IsBytes bytes → terms_at bytes ≡ Ok x
    → Takes bytes (fields_bytes x.0) x.1 × HasFields x.0
unfolding terms_at
terms_takes bytes x fits e =
    let o = bind_ok (owner_at bytes) (λ owner. number_at w64 owner.1 >>= λ stamp. number_at w64 stamp.1 >>= λ weight. bytes_at 16 weight.1 >>= λ extra. Ok (record { owner = owner.0; stamp = stamp.0; weight = weight.0; extra = extra.0 }, extra.1)) x e in
    let s = bind_ok (number_at w64 o.0.1) (λ stamp. number_at w64 stamp.1 >>= λ weight. bytes_at 16 weight.1 >>= λ extra. Ok (record { owner = o.0.0; stamp = stamp.0; weight = weight.0; extra = extra.0 }, extra.1)) x o.2 in
    let w = bind_ok (number_at w64 s.0.1) (λ weight. bytes_at 16 weight.1 >>= λ extra. Ok (record { owner = o.0.0; stamp = s.0.0; weight = weight.0; extra = extra.0 }, extra.1)) x s.2 in
    let b = bind_ok (bytes_at 16 w.0.1) (λ extra. Ok (record { owner = o.0.0; stamp = s.0.0; weight = w.0.0; extra = extra.0 }, extra.1)) x w.2 in
    let to = owner_takes bytes o.0 fits o.1 in
    let ts = number_takes w64 (2 ^ 64) wide64 o.0.1 s.0.0 s.0.1 to.0.rest_fits s.1 in
    let tw = number_takes w64 (2 ^ 64) wide64 s.0.1 w.0.0 w.0.1 ts.0.rest_fits w.1 in
    let tb = bytes_take 16 w.0.1 b.0 tw.0.rest_fits b.1 in
    let e2 = Takes-then s.0.1 (to_le_bytes w64 w.0.0) w.0.1 b.0.0 b.0.1 tw.0 tb.0 in
    let e1 = Takes-then o.0.1 (to_le_bytes w64 s.0.0) s.0.1 (to_le_bytes w64 w.0.0 ++ b.0.0) b.0.1 ts.0 e2 in
    let e0 = Takes-then bytes (owner_bytes o.0.0) o.0.1 (to_le_bytes w64 s.0.0 ++ (to_le_bytes w64 w.0.0 ++ b.0.0)) b.0.1 to.0 e1 in
    let made : Terms × List ℕ = (record { owner = o.0.0; stamp = s.0.0; weight = w.0.0; extra = b.0.0 }, b.0.1) in
    subst (λ (y : Terms × List ℕ). Takes bytes (fields_bytes y.0) y.1 × HasFields y.0) {x = made} (ok_is made x b.2)
    (e0, record { node = to.1; serial = to.2; stamp = ts.1; weight = tw.1; extra = tb.1 })

terms_again : (t : Terms) (rest : List ℕ) → HasFields t → terms_at (fields_bytes t ++ rest) ≡ Ok (t, rest)
unfolding terms_at
terms_again t rest fits =
    let e2 = to_le_bytes w64 t.weight ++ t.extra in
    let e1 = to_le_bytes w64 t.stamp ++ e2 in
    let regrouped : fields_bytes t ++ rest
    ≡ owner_bytes t.owner ++ (to_le_bytes w64 t.stamp ++ (to_le_bytes w64 t.weight ++ (t.extra ++ rest))) =
    append_assoc (owner_bytes t.owner) e1 rest
    ∙ ap (λ (x : List ℕ). owner_bytes t.owner ++ x) (append_assoc (to_le_bytes w64 t.stamp) e2 rest
    ∙ ap (λ (x : List ℕ). to_le_bytes w64 t.stamp ++ x) (append_assoc (to_le_bytes w64 t.weight) t.extra rest)) in
    ap terms_at regrouped
    ∙ rw (
      owner_again t.owner (to_le_bytes w64 t.stamp ++ (to_le_bytes w64 t.weight ++ (t.extra ++ rest))) fits.node fits.serial,
      number_again w64 (2 ^ 64) wide64 t.stamp (to_le_bytes w64 t.weight ++ (t.extra ++ rest)) fits.stamp,
      number_again w64 (2 ^ 64) wide64 t.weight (t.extra ++ rest) fits.weight,
      bytes_again 16 t.extra rest fits.extra,
    ) refl

-- ---- resolvers

-- one byte in front
pub behind : (byte : ℕ) (bytes text rest : List ℕ) → Takes bytes text rest → Takes (byte ∷ bytes) (byte ∷ text) rest
behind byte bytes text rest t = record { parts = ap (λ (r : List ℕ). byte ∷ r) t.parts; rest_fits = t.rest_fits }

abbrev Read : List ℕ → ResolverText × List ℕ → Type 0
Read bytes y = Takes bytes (resolver_bytes y.0) y.1 × IsResolver y.0

resolver_takes : (bytes : List ℕ) (x : ResolverText × List ℕ) → IsBytes bytes → resolver_at bytes ≡ Ok x
    → Takes bytes (resolver_bytes x.0) x.1 × IsResolver x.0
unfolding resolver_at
resolver_takes [] x fits e = absurd cc
resolver_takes (zero ∷ rest) x fits e =
    subst (Read (0 ∷ rest)) (ok_is (ByBuiltin Exit, rest) x e) (record { parts = refl; rest_fits = IsBytes-rest 0 rest fits }, tt)
resolver_takes (suc zero ∷ rest) x fits e =
    subst (Read (1 ∷ rest)) (ok_is (ByBuiltin Notify, rest) x e) (record { parts = refl; rest_fits = IsBytes-rest 1 rest fits }, tt)
resolver_takes (suc (suc zero) ∷ rest) x fits e =
    subst (Read (2 ∷ rest)) (ok_is (ByBuiltin NotifyAll, rest) x e) (record { parts = refl; rest_fits = IsBytes-rest 2 rest fits }, tt)
resolver_takes (suc (suc (suc zero)) ∷ rest) x fits e =
    let a = bind_ok (bytes_at 32 rest) (λ id. Ok (Named (record { 0 = id.0 }), id.1)) x e in
    let t = bytes_take 32 rest a.0 (IsBytes-rest 3 rest fits) a.1 in
    subst (Read (3 ∷ rest)) (ok_is (Named (record { 0 = a.0.0 }), a.0.1) x a.2) (behind 3 rest a.0.0 a.0.1 t.0, t.1)
resolver_takes (suc (suc (suc (suc zero))) ∷ rest) x fits e =
    let a = bind_ok (count_at max_code rest) (λ len. bytes_at len.0 len.1 >>= λ code. Ok (Code code.0, code.1)) x e in
    let b = bind_ok (bytes_at a.0.0 a.0.1) (λ code. Ok (Code code.0, code.1)) x a.2 in
    let t = sized_takes rest a.0 b.0 (IsBytes-rest 4 rest fits) a.1 b.1 in
    subst (Read (4 ∷ rest)) (ok_is (Code b.0.0, b.0.1) x b.2) (behind 4 rest (sized_code b.0.0) b.0.1 t.0, t.1)
resolver_takes (suc (suc (suc (suc (suc n)))) ∷ rest) x fits e = absurd cc

resolver_again : (r : ResolverText) (rest : List ℕ) → IsResolver r → resolver_at (resolver_bytes r ++ rest) ≡ Ok (r, rest)
unfolding resolver_at
resolver_again (ByBuiltin Exit) rest h = refl
resolver_again (ByBuiltin Notify) rest h = refl
resolver_again (ByBuiltin NotifyAll) rest h = refl
resolver_again (Named id) rest h = rw (bytes_again 32 id.0 rest h) refl
resolver_again (Code bytes) rest h =
    ap (λ (r : List ℕ). resolver_at (4 ∷ r)) (append_assoc (to_le_bytes w32 (length bytes)) bytes rest)
    ∙ rw (count_again max_code (length bytes) (bytes ++ rest) h (lit< tt), bytes_again (length bytes) bytes rest refl) refl

-- ---- rows

pub row_takes : (bytes : List ℕ) (x : RowText × List ℕ) → IsBytes bytes → row_at bytes ≡ Ok x
    → Takes bytes (row_bytes x.0) x.1 × IsRow x.0
unfolding row_at
row_takes bytes x fits e =
    let n = bind_ok (name_at bytes) (λ name. terms_at name.1 >>= λ terms. resolver_at terms.1 >>= λ resolver. Ok (record { name = name.0; terms = terms.0; resolver = resolver.0 }, resolver.1)) x e in
    let f = bind_ok (terms_at n.0.1) (λ terms. resolver_at terms.1 >>= λ resolver. Ok (record { name = n.0.0; terms = terms.0; resolver = resolver.0 }, resolver.1)) x n.2 in
    let r = bind_ok (resolver_at f.0.1) (λ resolver. Ok (record { name = n.0.0; terms = f.0.0; resolver = resolver.0 }, resolver.1)) x f.2 in
    let tn = name_takes bytes n.0 fits n.1 in
    let tf = terms_takes n.0.1 f.0 tn.0.rest_fits f.1 in
    let tr = resolver_takes f.0.1 r.0 tf.0.rest_fits r.1 in
    let e1 = Takes-then n.0.1 (fields_bytes f.0.0) f.0.1 (resolver_bytes r.0.0) r.0.1 tf.0 tr.0 in
    let e0 = Takes-then bytes (name_bytes n.0.0) n.0.1 (fields_bytes f.0.0 ++ resolver_bytes r.0.0) r.0.1 tn.0 e1 in
    let made : RowText × List ℕ = (record { name = n.0.0; terms = f.0.0; resolver = r.0.0 }, r.0.1) in
    subst (λ (y : RowText × List ℕ). Takes bytes (row_bytes y.0) y.1 × IsRow y.0) {x = made} (ok_is made x r.2)
    (e0, record { named = tn.1; fields = tf.1; resolver = tr.1 })

pub row_again : (r : RowText) (rest : List ℕ) → IsRow r → row_at (row_bytes r ++ rest) ≡ Ok (r, rest)
unfolding row_at
row_again r rest fits =
    let regrouped : row_bytes r ++ rest ≡ name_bytes r.name ++ (fields_bytes r.terms ++ (resolver_bytes r.resolver ++ rest)) =
    append_assoc (name_bytes r.name) (fields_bytes r.terms ++ resolver_bytes r.resolver) rest
    ∙ ap (λ (x : List ℕ). name_bytes r.name ++ x) (append_assoc (fields_bytes r.terms) (resolver_bytes r.resolver) rest) in
    ap row_at regrouped
    ∙ rw (
      name_again r.name (fields_bytes r.terms ++ (resolver_bytes r.resolver ++ rest)) fits.named,
      terms_again r.terms (resolver_bytes r.resolver ++ rest) fits.fields,
      resolver_again r.resolver rest fits.resolver,
    ) refl

-- ---- rows that are written

pub row_joined : (out named fielded name fields resolver : List ℕ) → named ≡ out ++ name → fielded ≡ named ++ fields
    → fielded ++ resolver ≡ out ++ (name ++ (fields ++ resolver))
row_joined out named fielded name fields resolver p q = rw (q, p) (simp append_assoc)

-- Versions in bytes: what was encoded is parsed.
use Rattle.std.proofs.Common.{◌≡◌, ℕ, ◌+◌, ◌/◌, ◌%◌, ◌^◌, ◌<◌, ◌≤◌, Bool, true, false, not, eqb, List, ◌++◌, length, take, drop, Some, None, sym, refl, ap, ◌∙◌, ⊎_elim, arith}
use Rattle.std.proofs.lemmas.List.{append_assoc, drop-drop, take_at, drop_at, length-append, length-drop, length-take-le}
use Rattle.std.proofs.lemmas.Bool.{cases_Bool, and_parts, and_from, leb-true, ltb-true, eqb-true, le-leb, lt-leb, lt-ltb, eq-eqb, ne_eqb}
use Rattle.value.specs.Versions.{pick, or, every, Version, version}
use Rattle.value.specs.Numbers.{number, bytes_of, part, put_at, is_byte, all_bytes}
use Rattle.value.specs.Encoding.{limits, in_limits, fits, mark, head, encoding, encoded_length, has_room, key_length, moment_in, mark_in, kind_in, gone_in, value_length, arrival_in, size_in, stands, version_in, place_in, parsed, version_at, end_of, place_of, Lies, ParseReadsEncode}
use Rattle.value.specs.declared.version.Place.{Place}
use Rattle.value.proofs.TestLaws.{and_false_right, and_left_of, and_right_of, every_append}
use Rattle.value.proofs.NumberLaws.{number_bytes_of, all_bytes_of, put_more}

-- the test of the limits, and what it says
pub record Limits (k m : ℕ) (g : Bool) (n : ℕ) : Type 0 where
  pub some : 0 < k
  pub short : k < 256
  pub early : m < 2 ^ 63
  pub small : n ≤ 1024
  pub empty : or (not g) (eqb n 0) ≡ true

pub limits_parts : (k m : ℕ) (g : Bool) (n : ℕ) → limits k m g n ≡ true → Limits k m g n
unfolding limits
limits_parts k m g n e =
    let p = and_parts _ _ e in
    let q = and_parts _ _ p.1 in
    let r = and_parts _ _ q.1 in
    let s = and_parts _ _ r.1 in
    record { some = ltb-true _ _ p.0; short = ltb-true _ _ q.0; early = ltb-true _ _ r.0; small = leb-true _ _ s.0; empty = s.1 }

pub limits_true : (k m : ℕ) (g : Bool) (n : ℕ) → Limits k m g n → limits k m g n ≡ true
unfolding limits
limits_true k m g n l =
    and_from _ _ (lt-ltb _ _ l.some)
    (and_from _ _ (lt-ltb _ _ l.short) (and_from _ _ (lt-ltb _ _ l.early) (and_from _ _ (le-leb _ _ l.small) l.empty)))

-- the test of what bytes begin with, and what it says
pub record Stands (bs : List ℕ) : Type 0 where
  pub long : 15 ≤ length bs
  pub kind : kind_in bs < 2
  pub arrival : arrival_in bs ≡ 0
  pub limited : limits (key_length bs) (moment_in bs) (gone_in bs) (value_length bs) ≡ true
  pub room : size_in bs ≤ length bs

pub stands_true : (bs : List ℕ) → Stands bs → stands bs ≡ true
unfolding stands
stands_true bs s =
    and_from _ _ (le-leb _ _ s.long)
    (and_from _ _ (lt-ltb _ _ s.kind) (and_from _ _ (eq-eqb _ _ s.arrival) (and_from _ _ s.limited (le-leb _ _ s.room))))

pub stands_parts : (bs : List ℕ) → stands bs ≡ true → Stands bs
unfolding stands
stands_parts bs e =
    let p = and_parts _ _ e in
    let q = and_parts _ _ p.1 in
    let r = and_parts _ _ q.1 in
    let s = and_parts _ _ r.1 in
    record { long = leb-true _ _ p.0; kind = ltb-true _ _ q.0; arrival = eqb-true _ _ r.0; limited = s.0; room = leb-true _ _ s.1 }

pub stands_false : (bs : List ℕ) → (Stands bs → ⊥) → stands bs ≡ false
stands_false bs n = ⊎_elim (λ t. absurd (n (stands_parts bs t))) (λ f. f) (cases_Bool (stands bs))

-- kind and length in one number
mark_below : (g : Bool) (n : ℕ) → n ≤ 1024 → mark g n < 256 ^ 2
mark_below true n h = omega arith
mark_below false n h = omega arith

mark_length : (g : Bool) (n : ℕ) → n ≤ 1024 → mark g n % 2048 ≡ n
mark_length true n h = omega arith
mark_length false n h = omega arith

mark_kind : (g : Bool) (n : ℕ) → n ≤ 1024 → mark g n / 2048 < 2
mark_kind true n h = omega arith
mark_kind false n h = omega arith

mark_gone : (g : Bool) (n : ℕ) → n ≤ 1024 → eqb (mark g n / 2048) 1 ≡ g
mark_gone true n h = eq-eqb _ _ (omega arith)
mark_gone false n h = ne_eqb _ _ (omega arith)

-- what a version's own bytes say
pub record Says (v : Version) (bs ys : List ℕ) : Type 0 where
  pub key_long : key_length bs ≡ length v.key
  pub moment : moment_in bs ≡ v.moment
  pub gone : gone_in bs ≡ v.gone
  pub value_long : value_length bs ≡ length v.value
  pub is : version_in bs ≡ v
  pub after : drop (size_in bs) bs ≡ ys
  pub stand : Stands bs

pub says : (v : Version) (ys : List ℕ) → in_limits v ≡ true → Says v (encoding v ++ ys) ys
unfolding number bytes_of head encoding
says v ys e =
    let w = limits_parts _ _ _ _ e in
    let bs : List ℕ = encoding v ++ ys in
    let m : moment_in bs ≡ v.moment = number_bytes_of 8 v.moment (omega (arith, w.early)) in
    let k : mark_in bs ≡ mark v.gone (length v.value) = number_bytes_of 2 _ (mark_below v.gone _ w.small) in
    let n : value_length bs ≡ length v.value = ap (λ t. t % 2048) k ∙ mark_length v.gone _ w.small in
    let g : gone_in bs ≡ v.gone = ap (λ t. eqb (t / 2048) 1) k ∙ mark_gone v.gone _ w.small in
    let tail : drop 15 bs ≡ v.key ++ (v.value ++ ys) = append_assoc v.key v.value ys in
    let past : drop (15 + key_length bs) bs ≡ v.value ++ ys = sym (drop-drop (length v.key) 15 bs) ∙ ap (drop (length v.key)) tail ∙ drop_at v.key _ _ refl in
    let long : length bs ≡ 15 + length v.key + length v.value + length ys =
    omega (arith, ap length tail, length-append v.key (v.value ++ ys), length-append v.value ys, length-drop 15 bs) in
    let key : part 15 (key_length bs) bs ≡ v.key = ap (take (length v.key)) tail ∙ take_at v.key _ _ refl in
    let value : part (15 + key_length bs) (value_length bs) bs ≡ v.value = (λ i. take (n i) (past i)) ∙ take_at v.value ys _ refl in
    record {
      key_long = refl;
      moment = m;
      gone = g;
      value_long = n;
      is = (λ i. version (key i) (m i) (g i) (value i));
      after = sym (drop-drop (value_length bs) (15 + key_length bs) bs) ∙ (λ i. drop (n i) (past i)) ∙ drop_at v.value ys _ refl;
      stand = record {
        long = omega arith;
        kind = rw k (mark_kind v.gone _ w.small);
        arrival = refl;
        limited = (λ i. limits (length v.key) (m i) (g i) (n i)) ∙ e;
        room = omega arith;
      };
    }

-- where there is room for a version, it is in limits
pub room_true : (v : Version) (out : List ℕ) → in_limits v ≡ true → encoded_length v ≤ length out → has_room v out ≡ true
unfolding has_room
room_true v out e h = and_from _ _ e (le-leb _ _ h)

pub room_limits : (v : Version) (out : List ℕ) → in_limits v ≡ false → has_room v out ≡ false
unfolding has_room
room_limits v out e = rw e refl

pub room_short : (v : Version) (out : List ℕ) → length out < encoded_length v → has_room v out ≡ false
unfolding has_room
room_short v out h = rw (lt-leb (encoded_length v) (length out) h) (and_false_right (in_limits v))

-- head, key and value, put one after another
pub all_put : (v : Version) (h out : List ℕ) → h ≡ head (length v.key) v.moment v.gone (length v.value) →
    put_at (15 + length v.key) v.value (put_at 15 v.key (put_at 0 h out)) ≡ encoding v ++ drop (encoded_length v) out
unfolding bytes_of head encoding
all_put v h out e =
    let k : List ℕ = head (length v.key) v.moment v.gone (length v.value) in
    let one : put_at 15 v.key (put_at 0 h out) ≡ put_at 0 (k ++ v.key) out =
    ap (λ x. put_at 15 v.key (put_at 0 x out)) e ∙ put_more 0 15 k v.key out refl (omega arith) in
    ap (put_at (15 + length v.key) v.value) one
    ∙ put_more 0 (15 + length v.key) (k ++ v.key) v.value out (omega (arith, length-append k v.key)) (omega arith)
    ∙ (λ i. append_assoc k v.key v.value i ++ drop (long i) out)
  where
    long : length ((head (length v.key) v.moment v.gone (length v.value) ++ v.key) ++ v.value) ≡ encoded_length v
    long = omega (arith, length-append v.key v.value, length-append (head (length v.key) v.moment v.gone (length v.value) ++ v.key) v.value, length-append (head (length v.key) v.moment v.gone (length v.value)) v.key)

pub length_encoding : (v : Version) → length (encoding v) ≡ encoded_length v
unfolding bytes_of head encoding
length_encoding v = omega (arith, length-append v.key v.value)

all_bytes_head : (k m : ℕ) (g : Bool) (n : ℕ) → k < 256 → all_bytes (head k m g n) ≡ true
unfolding head every
all_bytes_head k m g n h =
    and_from _ _ (lt-ltb k 256 h)
    (every_append is_byte (bytes_of 8 m) _ (all_bytes_of 8 m) (every_append is_byte (bytes_of 2 (mark g n)) _ (all_bytes_of 2 (mark g n)) refl))

pub all_bytes_encoding : (v : Version) → fits v ≡ true → all_bytes (encoding v) ≡ true
unfolding encoding
all_bytes_encoding v h =
    let w = limits_parts _ _ _ _ (and_left_of (in_limits v) _ h) in
    let b = and_right_of (in_limits v) _ h in
    every_append is_byte (head _ _ _ _) (v.key ++ v.value) (all_bytes_head _ _ _ _ w.short)
    (every_append is_byte v.key v.value (and_left_of (all_bytes v.key) _ b) (and_right_of (all_bytes v.key) _ b))

-- a row in which nothing stands at a place, and one in which a version does
pub none_stands : (row from : List ℕ) (at : ℕ) → from ≡ drop at row → (Stands from → ⊥) → None ≡ parsed row at
unfolding parsed
none_stands row from at e n = rw (← e, stands_false from n) refl

pub some_stands : (row from : List ℕ) (at : ℕ) (p : Place) → from ≡ drop at row → Stands from → p ≡ place_in from at → Some p ≡ parsed row at
unfolding parsed
some_stands row from at p e s i = rw (← e, stands_true from s) (ap Some i)

pub record Found (row : List ℕ) (at : ℕ) (p : Place) : Type 0 where
  pub stand : Stands (drop at row)
  pub is : p ≡ place_in (drop at row) at

pub found_there : (row : List ℕ) (at : ℕ) (p : Place) → parsed row at ≡ Some p → Found row at p
unfolding parsed
found_there row at p e = go (stands (drop at row)) refl e
  where
    go : (b : Bool) → stands (drop at row) ≡ b → pick b (Some (place_in (drop at row) at)) None ≡ Some p → Found row at p
    go true t f = record { stand = stands_parts (drop at row) t; is = cc }
    go false t f = let z : ◌≡◌ {A = ℕ} 0 1 = cc in absurd (omega arith)

pub lies_there : (row : List ℕ) (at : ℕ) (p : Place) → parsed row at ≡ Some p → Lies row at p
lies_there row at p e =
    let f = found_there row at p e in
    let s = f.stand in
    let l = limits_parts _ _ _ _ s.limited in
    let n = length-drop at row in
    rw f.is (record {
      key_follows = refl;
      value_follows = refl;
      within = omega arith;
      key_some = l.some;
      key_short = l.short;
      value_short = l.small;
      early = l.early;
    })

pub none_there : (row : List ℕ) (at : ℕ) → parsed row at ≡ None → stands (drop at row) ≡ false
unfolding parsed
none_there row at e = go (stands (drop at row)) e
  where
    go : (b : Bool) → pick b (Some (place_in (drop at row) at)) None ≡ None → b ≡ false
    go true f = let z : ◌≡◌ {A = ℕ} 0 1 = cc in absurd (omega arith)
    go false f = refl

-- the version at a place that was found is the one that the bytes from there on begin with, and the next one stands behind it
pub version_there : (row : List ℕ) (at : ℕ) → version_at row (place_in (drop at row) at) ≡ version_in (drop at row)
version_there row at =
    let k : ℕ = key_length (drop at row) in
    let n : at + 15 + k ≡ at + (15 + k) = omega arith in
    let e : drop (at + 15) row ≡ drop 15 (drop at row) = sym (drop-drop 15 at row) in
    let f : drop (at + 15 + k) row ≡ drop (15 + k) (drop at row) = ap (λ t. drop t row) n ∙ sym (drop-drop (15 + k) at row) in
    (λ i. version (take k (e i)) (moment_in (drop at row)) (gone_in (drop at row)) (take (value_length (drop at row)) (f i)))

pub end_there : (row : List ℕ) (at : ℕ) → drop (end_of (place_in (drop at row) at)) row ≡ drop (size_in (drop at row)) (drop at row)
end_there row at =
    let n : at + 15 + key_length (drop at row) + value_length (drop at row) ≡ at + size_in (drop at row) = omega arith in
    ap (λ t. drop t row) n ∙ sym (drop-drop (size_in (drop at row)) at row)

-- what stands is in limits
pub version_in_limits : (bs : List ℕ) → Stands bs → in_limits (version_in bs) ≡ true
version_in_limits bs s =
    let d = length-drop 15 bs in
    let e = length-drop (15 + key_length bs) bs in
    let k : length (part 15 (key_length bs) bs) ≡ key_length bs = length-take-le _ _ (omega (arith, s.room)) in
    let n : length (part (15 + key_length bs) (value_length bs) bs) ≡ value_length bs = length-take-le _ _ (omega (arith, s.room)) in
    (λ i. limits (k i) (moment_in bs) (gone_in bs) (n i)) ∙ s.limited

pub parse_reads_encode : ParseReadsEncode
unfolding parsed
parse_reads_encode xs v ys e =
    let row : List ℕ = xs ++ (encoding v ++ ys) in
    let at : ℕ = length xs in
    let d : drop at row ≡ encoding v ++ ys = drop_at xs (encoding v ++ ys) _ refl in
    let s = says v ys e in
    let p : place_in (encoding v ++ ys) at ≡ place_of at v =
    (λ i. record { key_at = at + 15; key_len = s.key_long i; value_at = at + 15 + s.key_long i; value_len = s.value_long i; moment = s.moment i; gone = s.gone i }) in (
      rw (d, stands_true _ s.stand) (ap Some p),
      ap (version_at row) (sym (ap (λ l. place_in l at) d ∙ p)) ∙ version_there row at ∙ ap version_in d ∙ s.is,
    )

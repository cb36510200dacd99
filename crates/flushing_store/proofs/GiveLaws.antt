-- A version is handed over: its bound, and the bytes that it brings.
use Rattle.std.proofs.Common.{◌≡◌, ℕ, ◌+◌, ◌<◌, ◌≤◌, Bool, true, false, List, [], ◌++◌, length, take, drop, Some, None, sym, refl, ap, ◌∙◌, append_assoc, arith, length-append, length-drop, length-take, ne_eqb, bytes_eq}
use Rattle.std.proofs.lemmas.List.{take_at}
use Rattle.value.specs.Versions.{pick, Version, version}
use Rattle.value.specs.Numbers.{bytes_of}
use Rattle.value.specs.Encoding.{in_limits, encoding, encoded_length, has_room, written_length, written}
use Rattle.value.proofs.KeyLaws.{same_told}
use Rattle.value.proofs.NumberLaws.{length_bytes_of}
use Rattle.value.proofs.EncodingLaws.{limits_parts, room_true, room_limits, length_encoding}
use Rattle.memtable.specs.Arena.{key_at, moment_at}
use Rattle.table.specs.Blocks.{no_bound}
use Rattle.table.specs.Writing.{begins, gave}
use Rattle.table.specs.declared.writer.Writer.{Writer}
use Rattle.flushing_store.specs.Control.{stage_region}
use Rattle.flushing_store.specs.Stage.{staged}
use Rattle.flushing_store.specs.Give.{bound_after, brought, in_hand, given_writer, with_entry, given_memory}

module _ (n : ℕ) (m key last : List ℕ) (h : n ≡ 0 → ⊥) (e : last ≡ key_at (stage_region m) 0) where
  pub bound_same : (s : ℕ) → true ≡ bytes_eq last key → s ≡ moment_at (stage_region m) 0 → s ≡ bound_after n m key
  bound_same s o f = rw (ne_eqb n 0 h, same_told last (key_at (stage_region m) 0) key true e o) f

  pub bound_other : false ≡ bytes_eq last key → no_bound ≡ bound_after n m key
  bound_other o = rw (ne_eqb n 0 h, same_told last (key_at (stage_region m) 0) key false e o) refl

-- THE BYTES. In a row of 1,294 bytes there is room for each version within the limits.
module _ (v : Version) (out : List ℕ) (h : 1294 ≤ length out) where
  room_is : has_room v out ≡ in_limits v
  room_is = go (in_limits v) refl
    where
      go : (b : Bool) → in_limits v ≡ b → has_room v out ≡ b
      go true e = room_true v out e (let l = limits_parts (length v.key) v.moment v.gone (length v.value) e in omega arith)
      go false e = room_limits v out e

  length_is : written_length v out ≡ pick (in_limits v) (Some (encoded_length v)) None
  length_is = ap (λ b. pick b (Some (encoded_length v)) None) room_is

  bytes_are : in_limits v ≡ true → written v out ≡ encoding v ++ drop (encoded_length v) out
  bytes_are e = ap (λ b. pick b (encoding v ++ drop (encoded_length v) out) out) (room_is ∙ e)

  pub none_written : None ≡ written_length v out → in_limits v ≡ false
  none_written e = go (in_limits v) (e ∙ length_is)
    where
      go : (b : Bool) → None ≡ pick b (Some (encoded_length v)) None → b ≡ false
      go true f = let z : ◌≡◌ {A = ℕ} 0 1 = cc in absurd (omega arith)
      go false f = refl

  pub some_written : (n : ℕ) → Some n ≡ written_length v out → (in_limits v ≡ true) × (n ≡ encoded_length v)
  some_written n e = go (in_limits v) (e ∙ length_is)
    where
      go : (b : Bool) → Some n ≡ pick b (Some (encoded_length v)) None → (b ≡ true) × (n ≡ encoded_length v)
      go true f = (refl, cc)
      go false f = let z : ◌≡◌ {A = ℕ} 0 1 = cc in absurd (omega arith)

  pub short_written : (n : ℕ) → Some n ≡ written_length v out → n ≤ 1294
  short_written n e = let (a, b) = some_written n e in let l = limits_parts (length v.key) v.moment v.gone (length v.value) a in omega arith

  -- at the front
  pub bring_plain : (s n : ℕ) (row : List ℕ) → Some n ≡ written_length v out → row ≡ written v out → (in_limits v ≡ true) × ((n ≡ length (brought false s v)) × (take n row ≡ brought false s v))
  bring_plain s n row f g =
      let (t, k) = some_written n f in
      (t, (k ∙ sym (length_encoding v), ap (take n) (g ∙ bytes_are t) ∙ take_at (encoding v) (drop (encoded_length v) out) n (omega (arith, length_encoding v))))

  -- behind a bound
  pub bring_bound : (s n : ℕ) (cp post row rest : List ℕ) → Some n ≡ written_length v out → cp ≡ bytes_of 8 s → row ≡ written v out →
      (in_limits v ≡ true) × ((8 + n ≡ length (brought true s v)) × (take (8 + n) (take 8 (cp ++ post) ++ (row ++ rest)) ≡ brought true s v))
  bring_bound s n cp post row rest f g w =
      let (t, k) = some_written n f in
      let B = bytes_of 8 s in
      let D = drop (encoded_length v) out in
      let size : length (B ++ encoding v) ≡ 8 + n = omega (arith, length-append B (encoding v), length_bytes_of 8 s, length_encoding v) in
      let front : take 8 (cp ++ post) ≡ B = ap (λ x. take 8 (x ++ post)) g ∙ take_at B post 8 (length_bytes_of 8 s) in
      let joined : B ++ ((encoding v ++ D) ++ rest) ≡ (B ++ encoding v) ++ (D ++ rest) = simp append_assoc in (
        t,
        (
          sym size,
          (λ i. take (8 + n) (front i ++ ((w ∙ bytes_are t) i ++ rest))) ∙ ap (take (8 + n)) joined ∙ take_at (B ++ encoding v) (D ++ rest) (8 + n) size,
        ),
      )

-- behind a bound there is room for it in a row of 1,302
pub room_behind : (cp row : List ℕ) (s : ℕ) → cp ≡ bytes_of 8 s → length row ≡ 1302 → 1294 ≤ length (take 1294 (drop 8 (cp ++ drop 8 row)))
room_behind cp row s e l =
    let out = drop 8 (cp ++ drop 8 row) in
    omega (arith, ap length e, length_bytes_of 8 s, length-take 1294 out, length-drop 8 (cp ++ drop 8 row), length-append cp (drop 8 row), length-drop 8 row)

-- HANDED OVER, or not
pub nothing_given : (w : Writer) (v : Version) (m : List ℕ) → in_limits v ≡ false → (None ≡ given_writer w v) × (m ≡ given_memory w v m)
unfolding given_memory
nothing_given w v m e = rw e (refl, refl)

pub given :
    (w w₁ : Writer) (v : Version) (m : List ℕ) (b : Bool) (s size : ℕ) (bs m₁ m₂ m₃ : List ℕ) → in_limits v ≡ true →
    (length v.key < 256 → length v.value ≤ 1024 → size ≡ encoded_length v) → b ≡ begins w size → s ≡ bound_after w.block.count m v.key →
    bs ≡ brought b s v → m₁ ≡ in_hand bs m → m₂ ≡ with_entry b w m₁ →
    m₃ ≡ staged (version v.key v.moment v.gone []) m₂ → w₁ ≡ gave w size → (Some w₁ ≡ given_writer w v) × (m₃ ≡ given_memory w v m)
unfolding given_memory
given w w₁ v m b s size bs m₁ m₂ m₃ t f g h bytes k l o q =
    let lim = limits_parts (length v.key) v.moment v.gone (length v.value) t in
    let z : size ≡ encoded_length v = f lim.short lim.small in
    let bz : b ≡ begins w (encoded_length v) = g ∙ ap (begins w) z in
    let hand : m₁ ≡ in_hand (brought (begins w (encoded_length v)) (bound_after w.block.count m v.key) v) m =
    k ∙ ap (λ x. in_hand x m) bytes ∙ (λ x. in_hand (brought (bz x) (h x) v) m) in
    rw t (
      ap Some (q ∙ ap (gave w) z),
      o ∙ ap (staged (version v.key v.moment v.gone [])) (l ∙ (λ x. with_entry (bz x) w (hand x))),
    )

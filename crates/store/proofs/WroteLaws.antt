-- How a write ends, and what memory holds then: as the house may answer.
use Rattle.std.proofs.Common.{◌≡◌, ℕ, ◌+◌, ◌*◌, ◌<◌, ◌≤◌, Bool, true, false, ◌&&◌, ltb, leb, List, [], ◌∷◌, ◌++◌, length, sym, refl, ap, ◌∙◌, subst, arith, ltb-false, ltb-true, le-ltb, lt-ltb, leb-false, leb-true}
use Rattle.value.specs.Versions.{pick, Version, weight, added_up}
use Rattle.value.specs.Rising.{rising}
use Rattle.value.proofs.TestLaws.{and_left_of, and_right_of}
use Rattle.memtable.specs.Words.{bytes}
use Rattle.memtable.specs.Arena.{appended}
use Rattle.memtable.specs.Index.{entered}
use Rattle.memtable.specs.Memtable.{accepts, accepts_it, one_more, after_one, seek_place, table_after, index_after, arena_after}
use Rattle.memtable.specs.Memtable as table
use Rattle.memtable.specs.Holds.{fits, Holds}
use Rattle.memtable.specs.declared.memtable.Memtable.{Memtable}
use Rattle.memtable.proofs.AnswerLaws.{written_right}
use Rattle.memtable.proofs.InsertLaws.{insert_right, room_right}
use Rattle.store.specs.House.{House, a_key, written_then, write_refusal, written, unsafe, needed, full_by}
use Rattle.store.specs.Promise.{Step, done, refused}
use Rattle.store.specs.Control.{memory_words, control, control_of, put_control}
use Rattle.store.specs.Regions.{index_of, arena_of, in_arena, in_index}
use Rattle.store.specs.Write.{put_in, wrote}
use Rattle.store.specs.Checks.{unwritten}
use Rattle.store.specs.Acts.{stepped}
use Rattle.store.specs.declared.control.Phase.TheVariants.{Idle}
use Rattle.store.specs.declared.control.Control.{Control}
use Rattle.store.proofs.MemoryLaws.{region_put, length_put, length_in_arena, arena_in_arena, index_in_arena, length_in_index, index_in_index, arena_in_index}
use Rattle.store.proofs.RegionLaws.{length_region}
use Rattle.store.proofs.RisingLaws.{write_rises, last_push, kept_all}
use Rattle.store.proofs.HeldLaws.{Held, put_held}

-- the refusal of a write or an erasure, by its version
abbrev pub version_refusal : House → Version → ℕ
version_refusal h v = pick (a_key v.key && leb (length v.value) 1024) (pick (ltb v.moment 9223372036854775808) (write_refusal h v.key v.moment) 6) 6

pub data Outcome (pages : ℕ) (h : House) (m : List ℕ) (v : Version) (s : Step) : Type 0 where
  rejected_by : (r : ℕ) → s ≡ stepped m (refused r) → 0 < r → r < 1000 → version_refusal h v ≡ r → Outcome pages h m v s
  too_heavy : s ≡ stepped m (refused 7) → version_refusal h v ≡ 0 → ltb 1048576 (weight (unsafe (written h v))) ≡ true → Outcome pages h m v s
  too_full : s ≡ stepped m (refused 8) → version_refusal h v ≡ 0 → full_by (written h v) pages ≡ true → ltb 1048576 (weight (unsafe (written h v))) ≡ false → Outcome pages h m v s
  taken_in : (m₁ : List ℕ) → s ≡ stepped m₁ done → version_refusal h v ≡ 0 → Held pages (written h v) Idle m₁ → Outcome pages h m v s

-- THE PATHS through the checks
module _ (k : Control) (m : List ℕ) (v : Version) where
  no_key : a_key v.key ≡ false → wrote k m v ≡ stepped m (refused 6)
  unfolding wrote
  no_key e = rw e refl

  module _ (e : a_key v.key ≡ true) where
    no_value : leb (length v.value) 1024 ≡ false → wrote k m v ≡ stepped m (refused 6)
    unfolding wrote
    no_value f = rw (e, f) refl

    module _ (f : leb (length v.value) 1024 ≡ true) where
      no_moment : ltb v.moment 9223372036854775808 ≡ false → wrote k m v ≡ stepped m (refused 6)
      unfolding wrote
      no_moment g = rw (e, f, g) refl

      module _ (g : ltb v.moment 9223372036854775808 ≡ true) where
        earlier : ltb v.moment k.last ≡ true → wrote k m v ≡ stepped m (refused 3)
        unfolding wrote
        earlier a = rw (e, f, g, a) refl

        module _ (a : ltb v.moment k.last ≡ false) where
          again : table.written_at k.table (index_of m) (arena_of m) v.key v.moment ≡ true → wrote k m v ≡ stepped m (refused 3)
          unfolding wrote unwritten
          again b = rw (e, f, g, a, b) refl

          module _ (b : table.written_at k.table (index_of m) (arena_of m) v.key v.moment ≡ false) where
            heavy : accepts k.table 16384 131072 (length v.key) (length v.value) ≡ false → wrote k m v ≡ stepped m (refused 7)
            unfolding wrote unwritten
            heavy c = rw (e, f, g, a, b, c) refl

            module _ (c : accepts k.table 16384 131072 (length v.key) (length v.value) ≡ true) where
              full : ltb (128 * k.pages) (k.table.weight + (64 + length v.key + length v.value)) ≡ true → wrote k m v ≡ stepped m (refused 8)
              unfolding wrote unwritten
              full d = rw (e, f, g, a, b, c, d) refl

              goes_in : ltb (128 * k.pages) (k.table.weight + (64 + length v.key + length v.value)) ≡ false →
                  wrote k m v ≡ stepped (put_in k (seek_place k.table (index_of m) (arena_of m) v.key v.moment) (one_more k.table (length v.key) (length v.value)) v m) done
              unfolding wrote unwritten
              goes_in d = rw (e, f, g, a, b, c, d) refl

-- WHAT THE CHECKS MEAN
fits_from : (v : Version) → a_key v.key ≡ true → leb (length v.value) 1024 ≡ true → ltb v.moment 9223372036854775808 ≡ true → bytes v.key ≡ true → bytes v.value ≡ true → fits v ≡ true
unfolding fits
fits_from v a b c d e =
    let x = and_left_of (leb 1 (length v.key)) (leb (length v.key) 255) a in
    let y = and_right_of (leb 1 (length v.key)) (leb (length v.key) 255) a in
    let z = lt-ltb v.moment 18446744073709551616 (omega (arith, ltb-true v.moment 9223372036854775808 c)) in
    rw (x, y, b, d, e, z) refl

weight_push : (vs : List Version) (v : Version) → weight (vs ++ v ∷ []) ≡ weight vs + (64 + length v.key + length v.value)
unfolding added_up
weight_push [] v = omega arith
weight_push (u ∷ us) v = let ih = weight_push us v in omega arith

unsafe_all : (h : House) (v : Version) → h.safe ≡ [] → unsafe (written h v) ≡ h.versions ++ v ∷ []
unsafe_all h v e = rw e refl

needed_all : (h : House) (v : Version) → h.low ≡ 0 → needed (written h v) ≡ h.versions ++ v ∷ []
needed_all h v e = rw e (kept_all (h.versions ++ v ∷ []))

-- what an accepted version leaves
index_accepted : (t : Memtable) (i a : List ℕ) (v : Version) → accepts_it t i a v ≡ true → entered i t.versions (seek_place t i a v.key v.moment) t.used ≡ index_after t i a v
unfolding index_after
index_accepted t i a v e = rw e refl

arena_accepted : (t : Memtable) (i a : List ℕ) (v : Version) → accepts_it t i a v ≡ true → appended a t.used v ≡ arena_after t i a v
unfolding arena_after
arena_accepted t i a v e = rw e refl

table_accepted : (t : Memtable) (i a : List ℕ) (v : Version) → accepts_it t i a v ≡ true → one_more t (length v.key) (length v.value) ≡ table_after t i a v
unfolding after_one
table_accepted t i a v e = rw e refl

module _ (pages : ℕ) (h : House) (m : List ℕ) (v : Version) (o : Held pages h Idle m) where
  index_long : length (index_of m) ≡ 16384
  index_long = length_region 64 16384 m (omega (arith, o.long))

  arena_long : length (arena_of m) ≡ 131072
  arena_long = length_region 16448 131072 m (omega (arith, o.long))

  accepts_is : accepts o.table 16384 131072 (length v.key) (length v.value) ≡ accepts_it o.table (index_of m) (arena_of m) v
  accepts_is = rw (index_long, arena_long) refl

  room_is : fits v ≡ true → accepts o.table 16384 131072 (length v.key) (length v.value) ≡ leb (weight (h.versions ++ v ∷ [])) 1048576
  room_is f = accepts_is ∙ room_right (index_of m) (arena_of m) o.table h.versions v o.holds f (omega (arith, index_long)) (omega (arith, arena_long))

  written_is : bytes v.key ≡ true → table.written_at o.table (index_of m) (arena_of m) v.key v.moment ≡ written_then h v.key v.moment
  written_is b = written_right (index_of m) (arena_of m) o.table h.versions v.key v.moment o.holds o.rises b

  weighs : o.table.weight + (64 + length v.key + length v.value) ≡ weight (h.versions ++ v ∷ [])
  weighs = ap (λ w. w + (64 + length v.key + length v.value)) o.holds.weighed ∙ sym (weight_push h.versions v)

  -- the version goes in: memory holds one more
  held_more : fits v ≡ true → ltb v.moment 9223372036854775808 ≡ true → h.last ≤ v.moment → written_then h v.key v.moment ≡ false →
      accepts o.table 16384 131072 (length v.key) (length v.value) ≡ true →
      Held pages (written h v) Idle
      (put_in (control Idle pages h.last o.table) (seek_place o.table (index_of m) (arena_of m) v.key v.moment) (one_more o.table (length v.key) (length v.value)) v m)
  unfolding put_in
  held_more f g l w a =
      let t = o.table in
      let place = seek_place t (index_of m) (arena_of m) v.key v.moment in
      let m₁ = in_arena t.used v m in
      let m₂ = in_index t place m₁ in
      let k = control Idle pages v.moment (one_more t (length v.key) (length v.value)) in
      let l₁ : length m₁ ≡ memory_words = length_in_arena m o.long t.used v ∙ o.long in
      let l₂ : length m₂ ≡ memory_words = length_in_index m₁ l₁ t place ∙ l₁ in
      let it = sym accepts_is ∙ a in
      let up : rising (h.versions ++ v ∷ []) ≡ true = write_rises h.versions v o.rises (omega (arith, o.last_is)) w in
      let ins = insert_right (index_of m) (arena_of m) t h.versions v o.holds f up it in
      let ei : index_of (put_control m₂ k) ≡ index_after t (index_of m) (arena_of m) v =
      region_put 64 16384 m₂ k (omega arith) ∙ index_in_index m₁ l₁ t place ∙ ap (λ x. entered x t.versions place t.used) (index_in_arena m o.long t.used v)
      ∙ index_accepted t (index_of m) (arena_of m) v it in
      let ea : arena_of (put_control m₂ k) ≡ arena_after t (index_of m) (arena_of m) v =
      region_put 16448 131072 m₂ k (omega arith) ∙ arena_in_index m₁ l₁ t place ∙ arena_in_arena m o.long t.used v ∙ arena_accepted t (index_of m) (arena_of m) v it in
      let et = table_accepted t (index_of m) (arena_of m) v it in
      let new : Holds (index_of (put_control m₂ k)) (arena_of (put_control m₂ k)) (one_more t (length v.key) (length v.value)) (h.versions ++ v ∷ []) =
      subst (λ x. Holds x (arena_of (put_control m₂ k)) (one_more t (length v.key) (length v.value)) (h.versions ++ v ∷ [])) (sym ei)
      (subst (λ x. Holds (index_after t (index_of m) (arena_of m) v) x (one_more t (length v.key) (length v.value)) (h.versions ++ v ∷ [])) (sym ea)
      (subst (λ x. Holds (index_after t (index_of m) (arena_of m) v) (arena_after t (index_of m) (arena_of m) v) x (h.versions ++ v ∷ [])) (sym et) ins)) in
      let s = ltb-true v.moment 9223372036854775808 g in
      record {
        table = one_more t (length v.key) (length v.value);
        long = length_put m₂ k ∙ l₂;
        control_is = put_held m₂ Idle pages v.moment (one_more t (length v.key) (length v.value)) _ _ (h.versions ++ v ∷ []) l₂ o.few s new;
        holds = new;
        rises = up;
        last_is = sym (last_push h.versions v (omega (arith, o.last_is)));
        early = s;
        few = o.few;
        none_safe = o.none_safe;
        none_low = o.none_low;
      }

  pub wrote_outcome : bytes v.key ≡ true → bytes v.value ≡ true → Outcome pages h m v (wrote (control_of m) m v)
  wrote_outcome bk bv =
      subst (λ k. Outcome pages h m v (wrote k m v)) (sym o.control_is)
      (go (a_key v.key) refl (leb (length v.value) 1024) refl (ltb v.moment 9223372036854775808) refl (ltb v.moment h.last) refl
      (table.written_at o.table (index_of m) (arena_of m) v.key v.moment) refl (accepts o.table 16384 131072 (length v.key) (length v.value)) refl
      (ltb (128 * pages) (o.table.weight + (64 + length v.key + length v.value))) refl)
    where
      go : (a : Bool) → a_key v.key ≡ a → (b : Bool) → leb (length v.value) 1024 ≡ b → (c : Bool) → ltb v.moment 9223372036854775808 ≡ c → (d : Bool) → ltb v.moment h.last ≡ d →
          (e : Bool) → table.written_at o.table (index_of m) (arena_of m) v.key v.moment ≡ e → (f : Bool) → accepts o.table 16384 131072 (length v.key) (length v.value) ≡ f →
          (g : Bool) → ltb (128 * pages) (o.table.weight + (64 + length v.key + length v.value)) ≡ g → Outcome pages h m v (wrote (control Idle pages h.last o.table) m v)
      go false a b pb c pc d pd e pe f pf g pg = rejected_by 6 (no_key _ m v a) (omega arith) (omega arith) (rw a refl)
      go true a false pb c pc d pd e pe f pf g pg = rejected_by 6 (no_value _ m v a pb) (omega arith) (omega arith) (rw (a, pb) refl)
      go true a true pb false pc d pd e pe f pf g pg = rejected_by 6 (no_moment _ m v a pb pc) (omega arith) (omega arith) (rw (a, pb, pc) refl)
      go true a true pb true pc true pd e pe f pf g pg = rejected_by 3 (earlier _ m v a pb pc pd) (omega arith) (omega arith) (rw (a, pb, pc, pd) refl)
      go true a true pb true pc false pd true pe f pf g pg =
          rejected_by 3 (again _ m v a pb pc pd pe) (omega arith) (omega arith) (let w = sym (written_is bk) ∙ pe in rw (a, pb, pc, pd, w) refl)
      go true a true pb true pc false pd false pe false pf g pg =
          let w = sym (written_is bk) ∙ pe in
          let r = sym (room_is (fits_from v a pb pc bk bv)) ∙ pf in
          too_heavy (heavy _ m v a pb pc pd pe pf) (rw (a, pb, pc, pd, w) refl) (ap (λ x. ltb 1048576 (weight x)) (unsafe_all h v o.none_safe) ∙ lt-ltb 1048576 _ (leb-false _ 1048576 r))
      go true a true pb true pc false pd false pe true pf true pg =
          let w = sym (written_is bk) ∙ pe in
          let r = sym (room_is (fits_from v a pb pc bk bv)) ∙ pf in
          too_full (full _ m v a pb pc pd pe pf pg) (rw (a, pb, pc, pd, w) refl)
          (ap (λ x. ltb (128 * pages) (weight x)) (needed_all h v o.none_low) ∙ ap (ltb (128 * pages)) (sym weighs) ∙ pg)
          (ap (λ x. ltb 1048576 (weight x)) (unsafe_all h v o.none_safe) ∙ le-ltb 1048576 _ (leb-true _ 1048576 r))
      go true a true pb true pc false pd false pe true pf false pg =
          let w = sym (written_is bk) ∙ pe in
          taken_in _ (goes_in _ m v a pb pc pd pe pf pg) (rw (a, pb, pc, pd, w) refl) (held_more (fits_from v a pb pc bk bv) pc (ltb-false v.moment h.last pd) w pf)

-- How a version is taken in, where the table is known not to have its key at its moment, and what memory holds then: as the house may answer.
use Rattle.std.proofs.Common.{◌≡◌, ℕ, ◌+◌, ◌*◌, ◌<◌, ◌≤◌, Bool, true, false, not, ◌&&◌, eqb, ltb, leb, List, [], ◌∷◌, ◌++◌, length, drop, sym, refl, ap, ◌∙◌, subst, append_assoc, arith, ltb-false, ltb-true, le-ltb, lt-ltb, le-leb, leb-false, leb-true}
use Rattle.std.proofs.lemmas.List.{drop_at}
use Rattle.value.specs.Versions.{pick, or, every, any, Version, weight}
use Rattle.value.specs.Rising.{rising}
use Rattle.value.specs.Numbers.{all_bytes}
use Rattle.value.specs.Encoding.{limits, in_limits, fits}
use Rattle.value.proofs.EncodingLaws.{limits_parts}
use Rattle.value.proofs.TestLaws.{and_left_of, and_right_of, every_append}
use Rattle.memtable.specs.Words.{bytes}
use Rattle.memtable.specs.Arena.{appended}
use Rattle.memtable.specs.Index.{entered}
use Rattle.memtable.specs.Memtable.{accepts, accepts_it, one_more, after_one, seek_place, table_after, index_after, arena_after}
use Rattle.memtable.specs.Memtable as table
use Rattle.memtable.specs.Holds.{Holds}
use Rattle.memtable.specs.Holds as mem
use Rattle.memtable.specs.declared.memtable.Memtable.{Memtable}
use Rattle.memtable.proofs.AnswerLaws.{written_right}
use Rattle.memtable.proofs.InsertLaws.{insert_right, room_right, weight_push}
use Rattle.memtable.proofs.SteadyLaws.{append_keeps, enter_keeps}
use Rattle.manifest.specs.declared.fields.Manifest.{Manifest}
use Rattle.store.specs.House.{House, a_key, written_then, write_refusal, written, unsafe, needed, full_by}
use Rattle.store.specs.Promise.{Step, done, refused}
use Rattle.store.specs.Acts.{stepped}
use Rattle.flushing_store.specs.Control.{memory_words, base, control, put_control}
use Rattle.store.specs.Regions.{wrap, index_of, arena_of, in_arena, in_index}
use Rattle.flushing_store.specs.Write.{put_in, accepted}
use Rattle.store.specs.Checks.{unwritten}
use Rattle.flushing_store.specs.declared.control.Phase.TheVariants.{Idle}
use Rattle.flushing_store.specs.declared.control.Control.{Control}
use Rattle.flushing_store.proofs.RegionLaws.{region_put, length_put, base_put, manifest_put}
use Rattle.store.proofs.RegionLaws.{length_within, region_same, region_above, region_below, length_region}
use Rattle.store.proofs.RisingLaws.{written_at, write_rises, last_push, kept_all}
use Rattle.flushing_store.proofs.HeldLaws.{Held, small_base}
use Rattle.flushing_store.proofs.GotLaws.{rising_back}
use Rattle.flushing_store.proofs.WrittenLaws.{any_split, weight_append}

-- the refusal of a write or an erasure, by its version
abbrev pub version_refusal : House → Version → ℕ
version_refusal h v = pick (a_key v.key && leb (length v.value) 1024) (pick (ltb v.moment 9223372036854775808) (write_refusal h v.key v.moment) 6) 6

pub data Outcome (pages : ℕ) (h : House) (f : Manifest) (m : List ℕ) (v : Version) (s : Step) : Type 0 where
  rejected_by : (r : ℕ) → s ≡ stepped m (refused r) → 0 < r → r < 1000 → version_refusal h v ≡ r → Outcome pages h f m v s
  too_heavy : s ≡ stepped m (refused 7) → version_refusal h v ≡ 0 → ltb 1048576 (weight (unsafe (written h v))) ≡ true → Outcome pages h f m v s
  too_full : s ≡ stepped m (refused 8) → version_refusal h v ≡ 0 → full_by (written h v) pages ≡ true → ltb 1048576 (weight (unsafe (written h v))) ≡ false → Outcome pages h f m v s
  taken_in : (m₁ : List ℕ) → s ≡ stepped m₁ done → version_refusal h v ≡ 0 → Held pages (written h v) f Idle m₁ → Outcome pages h f m v s

-- WHAT THE CHECKS MEAN
pub fits_memory : (v : Version) → fits v ≡ true → mem.fits v ≡ true
unfolding mem.fits
fits_memory v f =
    let l = limits_parts (length v.key) v.moment v.gone (length v.value) (and_left_of (in_limits v) (all_bytes v.key && all_bytes v.value) f) in
    let b = and_right_of (in_limits v) (all_bytes v.key && all_bytes v.value) f in
    rw (
      le-leb 1 (length v.key) (omega arith),
      le-leb (length v.key) 255 (omega arith),
      le-leb (length v.value) 1024 (omega arith),
      and_left_of (all_bytes v.key) (all_bytes v.value) b,
      and_right_of (all_bytes v.key) (all_bytes v.value) b,
      lt-ltb v.moment 18446744073709551616 (omega arith),
    ) refl

pub fits_from : (v : Version) → a_key v.key ≡ true → leb (length v.value) 1024 ≡ true → ltb v.moment 9223372036854775808 ≡ true → or (not v.gone) (eqb (length v.value) 0) ≡ true →
    bytes v.key ≡ true → bytes v.value ≡ true → fits v ≡ true
unfolding limits
fits_from v a b c g d e =
    let x = leb-true 1 (length v.key) (and_left_of (leb 1 (length v.key)) (leb (length v.key) 255) a) in
    let y = leb-true (length v.key) 255 (and_right_of (leb 1 (length v.key)) (leb (length v.key) 255) a) in
    rw (lt-ltb 0 (length v.key) (omega arith), lt-ltb (length v.key) 256 (omega arith), c, b, g, d, e) refl

-- and back
pub fits_checks : (v : Version) → fits v ≡ true →
    (a_key v.key ≡ true) × (leb (length v.value) 1024 ≡ true) × (ltb v.moment 9223372036854775808 ≡ true) × (bytes v.key ≡ true)
fits_checks v f =
    let l = limits_parts (length v.key) v.moment v.gone (length v.value) (and_left_of (in_limits v) (all_bytes v.key && all_bytes v.value) f) in
    let b = and_right_of (in_limits v) (all_bytes v.key && all_bytes v.value) f in (
      rw (le-leb 1 (length v.key) (omega arith), le-leb (length v.key) 255 (omega arith)) refl,
      le-leb (length v.value) 1024 (omega arith),
      lt-ltb v.moment 9223372036854775808 (omega arith),
      and_left_of (all_bytes v.key) (all_bytes v.value) b,
    )

needed_all : (h : House) (v : Version) → h.low ≡ 0 → needed (written h v) ≡ h.versions ++ v ∷ []
needed_all h v e = rw e (kept_all (h.versions ++ v ∷ []))

unsafe_more : (h : House) (v : Version) (us : List Version) → h.versions ≡ h.safe ++ us → unsafe (written h v) ≡ us ++ v ∷ []
unsafe_more h v us e =
    ap (λ y. drop (length h.safe) (y ++ v ∷ [])) e ∙ ap (drop (length h.safe)) (append_assoc h.safe us (v ∷ [])) ∙ drop_at h.safe (us ++ v ∷ []) (length h.safe) refl

-- what an accepted version leaves
index_accepted : (t : Memtable) (i a : List ℕ) (v : Version) → accepts_it t i a v ≡ true → entered i t.versions (seek_place t i a v.key v.moment) t.used ≡ index_after t i a v
unfolding index_after
index_accepted t i a v e = rw e refl

arena_accepted : (t : Memtable) (i a : List ℕ) (v : Version) → accepts_it t i a v ≡ true → appended a t.used v ≡ arena_after t i a v
unfolding arena_after
arena_accepted t i a v e = rw e refl

table_accepted : (t : Memtable) (i a : List ℕ) (v : Version) → accepts_it t i a v ≡ true → one_more t (length v.key) (length v.value) ≡ table_after t i a v
unfolding after_one
table_accepted t i a v e = rw e refl

-- THE PATHS through the checks
module _ (k : Control) (m : List ℕ) (v : Version) where
  again : table.written_at k.base.table (index_of m) (arena_of m) v.key v.moment ≡ true → accepted k m v ≡ stepped m (refused 3)
  unfolding accepted unwritten
  again b = rw b refl

  module _ (b : table.written_at k.base.table (index_of m) (arena_of m) v.key v.moment ≡ false) where
    heavy : accepts k.base.table 16384 131072 (length v.key) (length v.value) ≡ false → accepted k m v ≡ stepped m (refused 7)
    unfolding accepted unwritten
    heavy c = rw (b, c) refl

    module _ (c : accepts k.base.table 16384 131072 (length v.key) (length v.value) ≡ true) where
      full : ltb (128 * k.base.pages) (wrap (k.manifest.weight.all + (k.base.table.weight + (64 + length v.key + length v.value)))) ≡ true → accepted k m v ≡ stepped m (refused 8)
      unfolding accepted unwritten
      full d = rw (b, c, d) refl

      goes_in : ltb (128 * k.base.pages) (wrap (k.manifest.weight.all + (k.base.table.weight + (64 + length v.key + length v.value)))) ≡ false →
          accepted k m v ≡ stepped (put_in k (seek_place k.base.table (index_of m) (arena_of m) v.key v.moment) (one_more k.base.table (length v.key) (length v.value)) v m) done
      unfolding accepted unwritten
      goes_in d = rw (b, c, d) refl

module _ (pages : ℕ) (h : House) (f : Manifest) (m : List ℕ) (v : Version) (o : Held pages h f Idle m) (fit : fits v ≡ true) (weighed : f.weight.all ≡ weight h.safe) where
  index_long : length (index_of m) ≡ 16384
  index_long = length_region 64 16384 m (omega (arith, o.long))

  arena_long : length (arena_of m) ≡ 131072
  arena_long = length_region 16448 131072 m (omega (arith, o.long))

  fresh_rises : rising o.fresh ≡ true
  fresh_rises = rising_back h.safe o.fresh (ap rising (sym o.all_is) ∙ o.rises)

  accepts_is : accepts o.table 16384 131072 (length v.key) (length v.value) ≡ accepts_it o.table (index_of m) (arena_of m) v
  accepts_is = rw (index_long, arena_long) refl

  room_is : accepts o.table 16384 131072 (length v.key) (length v.value) ≡ leb (weight (o.fresh ++ v ∷ [])) 1048576
  room_is = accepts_is ∙ room_right (index_of m) (arena_of m) o.table o.fresh v o.holds (fits_memory v fit) (omega (arith, index_long)) (omega (arith, arena_long))

  written_is : any (written_at v.key v.moment) h.safe ≡ false → table.written_at o.table (index_of m) (arena_of m) v.key v.moment ≡ written_then h v.key v.moment
  written_is e =
      let (a, b, c, d) = fits_checks v fit in
      written_right (index_of m) (arena_of m) o.table o.fresh v.key v.moment o.holds fresh_rises d
      ∙ sym (ap (any (written_at v.key v.moment)) o.all_is ∙ any_split (written_at v.key v.moment) h.safe o.fresh ∙ ap (λ y. or y (any (written_at v.key v.moment) o.fresh)) e)

  weighs : wrap (f.weight.all + (o.table.weight + (64 + length v.key + length v.value))) ≡ weight (h.versions ++ v ∷ [])
  weighs =
      let l = limits_parts (length v.key) v.moment v.gone (length v.value) (and_left_of (in_limits v) (all_bytes v.key && all_bytes v.value) fit) in
      let a = ap weight o.all_is ∙ weight_append h.safe o.fresh in
      omega (arith, weight_push h.versions v, o.holds.weighed, o.room, o.few, l.short, l.small)

  module _ (lo : Control) where
    abbrev K : Control
    K = control (base Idle pages h.last o.table) f lo.lookup lo.merging

    -- the version goes in: memory holds one more
    held_more : h.last ≤ v.moment → written_then h v.key v.moment ≡ false → accepts o.table 16384 131072 (length v.key) (length v.value) ≡ true → weight (h.versions ++ v ∷ []) ≤ 128 * pages →
        Held pages (written h v) f Idle
        (put_in K (seek_place o.table (index_of m) (arena_of m) v.key v.moment) (one_more o.table (length v.key) (length v.value)) v m)
    unfolding put_in in_arena in_index every
    held_more l w a room =
        let t = o.table in
        let place = seek_place t (index_of m) (arena_of m) v.key v.moment in
        let t₁ = one_more t (length v.key) (length v.value) in
        let m₁ = in_arena t.used v m in
        let m₂ = in_index t place m₁ in
        let k = control (base Idle pages v.moment t₁) f lo.lookup lo.merging in
        let ga : length (appended (arena_of m) t.used v) ≡ 131072 = (append_keeps (arena_of m) t.used v).0 ∙ arena_long in
        let l₁ : length m₁ ≡ memory_words = length_within 16448 131072 (λ x. appended x t.used v) m (omega (arith, o.long)) ga ∙ o.long in
        let gi : length (entered (index_of m₁) t.versions place t.used) ≡ 16384 = (enter_keeps (index_of m₁) t.versions place t.used).0 ∙ length_region 64 16384 m₁ (omega (arith, l₁)) in
        let l₂ : length m₂ ≡ memory_words = length_within 64 16384 (λ x. entered x t.versions place t.used) m₁ (omega (arith, l₁)) gi ∙ l₁ in
        let it = sym accepts_is ∙ a in
        let up : rising (h.versions ++ v ∷ []) ≡ true = write_rises h.versions v o.rises (omega (arith, o.last_is)) w in
        let all : h.versions ++ v ∷ [] ≡ h.safe ++ (o.fresh ++ v ∷ []) = ap (λ y. y ++ v ∷ []) o.all_is ∙ append_assoc h.safe o.fresh (v ∷ []) in
        let up₁ : rising (o.fresh ++ v ∷ []) ≡ true = rising_back h.safe (o.fresh ++ v ∷ []) (ap rising (sym all) ∙ up) in
        let ins = insert_right (index_of m) (arena_of m) t o.fresh v o.holds (fits_memory v fit) up₁ it in
        let ei : index_of (put_control m₂ k) ≡ index_after t (index_of m) (arena_of m) v =
        region_put m₂ k l₂ 64 16384 (omega arith) ∙ region_same 64 16384 (λ x. entered x t.versions place t.used) m₁ (omega (arith, l₁)) gi
        ∙ ap (λ x. entered x t.versions place t.used) (region_below 16448 131072 64 16384 (λ x. appended x t.used v) m (omega (arith, o.long)) (omega arith))
        ∙ index_accepted t (index_of m) (arena_of m) v it in
        let ea : arena_of (put_control m₂ k) ≡ arena_after t (index_of m) (arena_of m) v =
        region_put m₂ k l₂ 16448 131072 (omega arith) ∙ region_above 64 16384 16448 131072 (λ x. entered x t.versions place t.used) m₁ (omega (arith, l₁)) gi (omega arith)
        ∙ region_same 16448 131072 (λ x. appended x t.used v) m (omega (arith, o.long)) ga ∙ arena_accepted t (index_of m) (arena_of m) v it in
        let et = table_accepted t (index_of m) (arena_of m) v it in
        let new : Holds (index_of (put_control m₂ k)) (arena_of (put_control m₂ k)) t₁ (o.fresh ++ v ∷ []) =
        subst (λ x. Holds x (arena_of (put_control m₂ k)) t₁ (o.fresh ++ v ∷ [])) (sym ei)
        (subst (λ x. Holds (index_after t (index_of m) (arena_of m) v) x t₁ (o.fresh ++ v ∷ [])) (sym ea)
        (subst (λ x. Holds (index_after t (index_of m) (arena_of m) v) (arena_after t (index_of m) (arena_of m) v) x (o.fresh ++ v ∷ [])) (sym et) ins)) in
        let (c1, c2, c3, c4) = fits_checks v fit in
        let s = ltb-true v.moment 9223372036854775808 c3 in
        record {
          fresh = o.fresh ++ v ∷ [];
          table = t₁;
          all_is = all;
          long = length_put m₂ k l₂;
          base_is = base_put m₂ k l₂ (small_base Idle pages v.moment t₁ (index_of (put_control m₂ k)) (arena_of (put_control m₂ k)) (o.fresh ++ v ∷ []) o.few s new);
          manifest_is = manifest_put m₂ k l₂ o.fits_list;
          holds = new;
          rises = up;
          last_is = sym (last_push h.versions v (omega (arith, o.last_is)));
          early = s;
          few = o.few;
          none_low = o.none_low;
          fit = every_append fits o.fresh (v ∷ []) o.fit (rw fit refl);
          room = room;
          fits_list = o.fits_list;
        }

    accepts_out : h.last ≤ v.moment → any (written_at v.key v.moment) h.safe ≡ false → Outcome pages h f m v (accepted K m v)
    accepts_out l e =
        go (table.written_at o.table (index_of m) (arena_of m) v.key v.moment) refl (accepts o.table 16384 131072 (length v.key) (length v.value)) refl
        (ltb (128 * pages) (wrap (f.weight.all + (o.table.weight + (64 + length v.key + length v.value))))) refl
      where
        refuses : (b : Bool) → table.written_at o.table (index_of m) (arena_of m) v.key v.moment ≡ b → version_refusal h v ≡ pick b 3 0
        refuses b p = let (c1, c2, c3, c4) = fits_checks v fit in let q = sym (written_is e) ∙ p in rw (c1, c2, c3, le-ltb v.moment h.last l, q) refl

        weight_is : weight (unsafe (written h v)) ≡ weight (o.fresh ++ v ∷ [])
        weight_is = ap weight (unsafe_more h v o.fresh o.all_is)

        go : (b : Bool) → table.written_at o.table (index_of m) (arena_of m) v.key v.moment ≡ b → (c : Bool) → accepts o.table 16384 131072 (length v.key) (length v.value) ≡ c →
            (d : Bool) → ltb (128 * pages) (wrap (f.weight.all + (o.table.weight + (64 + length v.key + length v.value)))) ≡ d → Outcome pages h f m v (accepted K m v)
        go true pb c pc d pd = rejected_by 3 (again K m v pb) (omega arith) (omega arith) (refuses true pb)
        go false pb false pc d pd =
            too_heavy (heavy K m v pb pc) (refuses false pb) (ap (ltb 1048576) weight_is ∙ lt-ltb 1048576 _ (leb-false (weight (o.fresh ++ v ∷ [])) 1048576 (sym room_is ∙ pc)))
        go false pb true pc true pd =
            too_full (full K m v pb pc pd) (refuses false pb) (ap (λ x. ltb (128 * pages) (weight x)) (needed_all h v o.none_low) ∙ ap (ltb (128 * pages)) (sym weighs) ∙ pd)
            (ap (ltb 1048576) weight_is ∙ le-ltb 1048576 _ (leb-true (weight (o.fresh ++ v ∷ [])) 1048576 (sym room_is ∙ pc)))
        go false pb true pc false pd =
            taken_in _ (goes_in K m v pb pc pd) (refuses false pb)
            (held_more l (sym (written_is e) ∙ pb) pc (omega (arith, weighs, ltb-false (128 * pages) _ pd)))

  pub accepted_outcome : (k : Control) → k.base ≡ base Idle pages h.last o.table → k.manifest ≡ f → h.last ≤ v.moment → any (written_at v.key v.moment) h.safe ≡ false →
      Outcome pages h f m v (accepted k m v)
  accepted_outcome k kb km l e = subst (λ c. Outcome pages h f m v (accepted c m v)) (λ i. control (sym kb i) (sym km i) k.lookup k.merging) (accepts_out k l e)

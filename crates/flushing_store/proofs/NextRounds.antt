-- A round in which the next version is due: the lesser head of the two runs is handed over, and of one key the later run's.
use Rattle.std.proofs.Common.{◌≡◌, ℕ, zero, suc, ◌+◌, ◌<◌, ◌≤◌, Bool, true, false, leb, List, [], ◌∷◌, length, get_or, drop, sym, refl, ap, ◌∙◌, subst, arith, le-ltb, lt-ltb, None}
use Rattle.std.proofs.lemmas.List.{take_all}
use Rattle.value.specs.Versions.{pick, every, Version, version}
use Rattle.value.specs.Encoding.{fits, encoded_length, end_of}
use Rattle.value.specs.declared.version.Place.{Place}
use Rattle.value.specs.Sorted.{sort, merge}
use Rattle.value.proofs.TestLaws.{and_left_of, and_right_of, clash}
use Rattle.value.proofs.SortLaws.{sort_every}
use Rattle.memtable.specs.Arena.{key_at as key_in, moment_at as moment_in, gone_at as gone_in, value_at as value_in, version_at as version_in_arena}
use Rattle.memtable.specs.Holds.{Holds}
use Rattle.memtable.proofs.AnswerLaws.{walk_right, sizes_suffice}
use Rattle.memtable.proofs.HeldLaws.{there}
use Rattle.memtable.proofs.ReadLaws.{fits_parts}
use Rattle.table.specs.Span.{capped}
use Rattle.table.specs.Row.{octets}
use Rattle.table.specs.Writing.{wrap, gave, Owes}
use Rattle.table.specs.Cursor.{Walking, Heads, listed_entry, wanted, ringed, advanced, a_cursor}
use Rattle.table.specs.declared.cursor.Cursor.{Cursor}
use Rattle.table.specs.declared.cursor.Want.TheVariants.{Head}
use Rattle.table.specs.declared.writer.Writer.{Writer}
use Rattle.table.specs.declared.lookup.Entry.{Entry}
use Rattle.table.proofs.CursorLaws.{cursor_right}
use Rattle.table.proofs.WalkLaws.{advanced_pages}
use Rattle.store.specs.House.{House}
use Rattle.flushing_store.specs.Control.{merging, with_merging, ring_of, list_of, hand_of, data_of, entries_of}
use Rattle.store.specs.Regions.{index_of, arena_of}
use Rattle.flushing_store.specs.Stage.{version_of}
use Rattle.flushing_store.specs.Look.{extent_of}
use Rattle.flushing_store.specs.Give.{given_writer, given_memory}
use Rattle.flushing_store.specs.Round.{a_turn, walked_on, with_cursor, handed_turn, memory_turn, table_turn}
use Rattle.flushing_store.specs.declared.control.Control.{Control}
use Rattle.flushing_store.proofs.RegionLaws.{SmallCursor}
use Rattle.flushing_store.proofs.StoredLaws.{of_bytes}
use Rattle.flushing_store.proofs.FlushAccount.{Job, new_stream, new_entries}
use Rattle.flushing_store.proofs.RoundAccount.{At, Rounded, more}
use Rattle.flushing_store.proofs.HandLaws.{fits_limits}
use Rattle.flushing_store.proofs.GiveRounds.{Gave, given_is, gave_all}

-- the first of a rest
every_first : {A : Type 0} (f : A → Bool) (xs : List A) (i : ℕ) (x : A) (ys : List A) → drop i xs ≡ x ∷ ys → every f xs ≡ true → f x ≡ true
unfolding every
every_first f [] zero x ys e h = clash true refl (ap none e)
  where
    none : {A : Type 0} → List A → Bool
    none [] = true
    none (z ∷ zs) = false
every_first f [] (suc i) x ys e h = clash true refl (ap none e)
  where
    none : {A : Type 0} → List A → Bool
    none [] = true
    none (z ∷ zs) = false
every_first f (z ∷ zs) zero x ys e h = let q : z ≡ x = cc in subst (λ y. f y ≡ true) q (and_left_of (f z) (every f zs) h)
every_first f (z ∷ zs) (suc i) x ys e h = every_first f zs i x ys e (and_right_of (f z) (every f zs) h)

-- the numbers of a cursor stay within 64 bits
small_advanced : (c : Cursor) (e : Entry) (p : Place) → SmallCursor c → SmallCursor (advanced c e p)
small_advanced c e p s = go (leb e.len (capped (end_of p)))
  where
    go : (b : Bool) → SmallCursor (pick b (a_cursor (wrap (c.block + 1)) 8 c.listed c.read) (a_cursor c.block (capped (end_of p)) c.listed c.read))
    go true = record { block = omega arith; at = omega arith; listed = s.listed; read = s.read }
    go false = record { block = s.block; at = omega arith; listed = s.listed; read = s.read }

module _ (n pages : ℕ) (h : House) (j : Job n pages h) (k : Control) (m : List ℕ) (o : At n pages h j k m)
    (room : k.merging.writer.positions.fill < 504) (all_taken : k.merging.writer.hand.taken ≡ k.merging.writer.hand.len) where
  -- what a hand-over leaves, put together
  handed : (v : Version) (rest : List Version) (c : Cursor) (walked : ℕ) (trest : List Version) →
      Gave n pages h j k m v rest (gave k.merging.writer (encoded_length v)) (given_memory k.merging.writer v m) →
      rest ≡ merge (drop walked (sort j.fresh)) trest → walked ≤ length j.fresh → SmallCursor c → c.listed ≡ k.merging.cursor.listed → c.read ≡ k.merging.cursor.read →
      Walking (extent_of j.list) j.before h.safe c (ring_of m) (list_of m) trest → every fits trest ≡ true →
      Rounded n pages h j k m (a_turn (with_merging k (merging c (gave k.merging.writer (encoded_length v)) walked k.merging.waiting)) None) (given_memory k.merging.writer v m)
  handed v rest c walked trest g e le sc ec er walking tf =
      let m₁ : List ℕ = given_memory k.merging.writer v m in
      let w₁ : Writer = gave k.merging.writer (encoded_length v) in
      more _ _ record {
        keeps = record {
          long = g.long;
          base_is = o.keeps.base_is;
          manifest_is = o.keeps.manifest_is;
          holds = subst (λ x. Holds x (arena_of m₁) j.table j.fresh) (sym g.index_same) (subst (λ x. Holds (index_of m) x j.table j.fresh) (sym g.arena_same) o.keeps.holds);
        };
        merges = record {
          table_rest = trest;
          given = v ∷ [];
          walking = subst (λ r. Walking (extent_of j.list) j.before h.safe c r (list_of m₁) trest) (sym g.ring_same)
              (subst (λ r. Walking (extent_of j.list) j.before h.safe c (ring_of m) r trest) (sym g.list_same) walking);
          table_fit = tf;
          walked = le;
          owes = subst (λ r. Owes (new_stream n pages h j) (new_entries n pages h j) w₁ (octets w₁.stream.fill (data_of m₁)) (octets w₁.hand.len (hand_of m₁)) (octets w₁.positions.fill (entries_of m₁)) (v ∷ []) r) e g.owes;
          staged = g.staged_it;
          listed = g.listed;
          hand_fits = g.hand_fits;
          waiting = o.merges.waiting;
          small_cursor = sc;
          small_writer = g.small;
        };
      }
      (rw (lt-ltb w₁.hand.taken w₁.hand.len g.hand_some, le-ltb k.merging.writer.hand.taken k.merging.writer.hand.len (omega arith)) (omega (arith, g.fill_same)))
      record { puts = g.puts_same; lists = g.lists_same; listed = ec; read = er; waiting = refl }

  -- A VERSION OF MEMORY
  module _ (x : k.merging.walked < length j.fresh) where
    abbrev at : ℕ
    at = get_or (index_of m) k.merging.walked 0

    abbrev mine : Version
    mine = version_in_arena (arena_of m) at

    below : k.merging.walked < j.table.versions
    below = omega (arith, j.counted)

    pub mine_first : drop k.merging.walked (sort j.fresh) ≡ mine ∷ drop (suc k.merging.walked) (sort j.fresh)
    mine_first = (walk_right (index_of m) (arena_of m) j.table j.fresh k.merging.walked o.keeps.holds below).0

    mine_fits : fits mine ≡ true
    mine_fits = every_first fits (sort j.fresh) k.merging.walked mine _ mine_first (sort_every fits j.fresh ∙ j.fit)

    mine_is : version_of (arena_of m) at ≡ mine
    unfolding version_of version_in_arena
    mine_is =
        let p = fits_parts mine (there (index_of m) (arena_of m) j.table j.fresh o.keeps.holds k.merging.walked below).fit in
        ap (λ y. version (key_in (arena_of m) at) (moment_in (arena_of m) at) (gone_in (arena_of m) at) y) (take_all 1024 (value_in (arena_of m) at) (omega (arith, p.value_long)))

    pub memory_round : (trest : List Version) → o.merges.table_rest ≡ trest → merge (mine ∷ drop (suc k.merging.walked) (sort j.fresh)) trest ≡ mine ∷ merge (drop (suc k.merging.walked) (sort j.fresh)) trest →
        Rounded n pages h j k m (memory_turn k m at).turn (memory_turn k m at).memory
    unfolding memory_turn
    memory_round trest e q =
        let w : Writer = k.merging.writer in
        let one : wrap (k.merging.walked + 1) ≡ suc k.merging.walked = omega (arith, o.merges.owes.few, counts) in
        let rest = merge (drop (suc k.merging.walked) (sort j.fresh)) trest in
        let owed : merge (drop k.merging.walked (sort j.fresh)) o.merges.table_rest ≡ mine ∷ merge (drop (suc k.merging.walked) (sort j.fresh)) trest = (λ i. merge (mine_first i) (e i)) ∙ q in
        let g = subst (λ y. Gave n pages h j k m mine rest (gave k.merging.writer (encoded_length mine)) y) (sym (given_is n pages h j k m o mine rest mine_fits room all_taken owed))
        (gave_all n pages h j k m o mine rest mine_fits room all_taken owed) in
        subst (λ v. Rounded n pages h j k m (handed_turn k (walked_on k) (given_writer w v)) (given_memory w v m)) (sym mine_is)
        (rw (fits_limits mine mine_fits) (handed mine rest k.merging.cursor (wrap (k.merging.walked + 1)) o.merges.table_rest g
        (λ i. merge (drop (sym one i) (sort j.fresh)) (sym e i)) (omega (arith, one)) o.merges.small_cursor refl refl o.merges.walking o.merges.table_fit))
      where
        counts : k.merging.walked < 16384
        counts = omega (arith, x, (sizes_suffice j.fresh o.keeps.holds.fit o.keeps.holds.light).0)

  -- A VERSION OF THE TABLE
  module _ (x : wanted k.merging.cursor (extent_of j.list) (list_of m) ≡ Head) where
    pub heads : Heads (extent_of j.list) j.before h.safe k.merging.cursor (ring_of m) (list_of m) o.merges.table_rest (listed_entry k.merging.cursor (list_of m))
    heads = cursor_right.head (extent_of j.list) j.before h.safe k.merging.cursor (ring_of m) (list_of m) o.merges.table_rest j.stored.there (of_bytes j.before j.stored.all_pages) o.merges.walking x

    abbrev block : List ℕ
    block = ringed (listed_entry k.merging.cursor (list_of m)).begin (listed_entry k.merging.cursor (list_of m)).len (ring_of m)

    first_fits : every fits (heads.version ∷ heads.others) ≡ true
    first_fits = ap (every fits) (sym heads.first) ∙ o.merges.table_fit

    theirs_fits : fits heads.version ≡ true
    unfolding every
    theirs_fits = and_left_of (fits heads.version) (every fits heads.others) first_fits

    others_fit : every fits heads.others ≡ true
    unfolding every
    others_fit = and_right_of (fits heads.version) (every fits heads.others) first_fits

    pub table_round : merge (drop k.merging.walked (sort j.fresh)) (heads.version ∷ heads.others) ≡ heads.version ∷ merge (drop k.merging.walked (sort j.fresh)) heads.others →
        Rounded n pages h j k m (table_turn k m block heads.place).turn (table_turn k m block heads.place).memory
    unfolding table_turn
    table_round q =
        let w : Writer = k.merging.writer in
        let v : Version = heads.version in
        let rest = merge (drop k.merging.walked (sort j.fresh)) heads.others in
        let c : Cursor = advanced k.merging.cursor (listed_entry k.merging.cursor (list_of m)) heads.place in
        let owed : merge (drop k.merging.walked (sort j.fresh)) o.merges.table_rest ≡ heads.version ∷ merge (drop k.merging.walked (sort j.fresh)) heads.others =
        ap (merge (drop k.merging.walked (sort j.fresh))) heads.first ∙ q in
        let g = subst (λ y. Gave n pages h j k m v rest (gave w (encoded_length v)) y) (sym (given_is n pages h j k m o v rest theirs_fits room all_taken owed)) (gave_all n pages h j k m o v rest theirs_fits room all_taken owed) in
        let (ec, er) = advanced_pages k.merging.cursor (listed_entry k.merging.cursor (list_of m)) heads.place in
        subst (λ y. Rounded n pages h j k m (handed_turn k (with_cursor k c) (given_writer w y)) (given_memory w y m)) (sym heads.is)
        (rw (fits_limits v theirs_fits) (handed v rest c k.merging.walked heads.others g refl o.merges.walked (small_advanced k.merging.cursor (listed_entry k.merging.cursor (list_of m)) heads.place o.merges.small_cursor)
        ec er heads.behind others_fit))

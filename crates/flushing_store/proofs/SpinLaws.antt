-- Rounds of a flush, one after another, come to where something is to be done.
use Rattle.std.proofs.Common.{◌≡◌, ℕ, zero, suc, ◌+◌, ◌-◌, ◌*◌, ◌<◌, ◌≤◌, min, Bool, true, false, ltb, leb, List, [], ◌∷◌, length, get_or, drop, Some, None, sym, refl, ap, ◌∙◌, subst, inl, inr, arith, ltb-false, ltb-true, leb-false, leb-true}
use Rattle.std.proofs.lemmas.List.{drop_all}
use Rattle.value.specs.Versions.{pick, before, Version}
use Rattle.value.specs.Encoding.{key_at}
use Rattle.value.specs.Sorted.{sort, merge}
use Rattle.value.proofs.SortLaws.{sort_weighs}
use Rattle.value.proofs.MergeLaws.{merge_nil}
use Rattle.memtable.specs.Arena.{key_at as key_in, version_at as version_in_arena}
use Rattle.merge.specs.Choice.{by_choice}
use Rattle.merge.specs.declared.choice.Next.TheVariants.{Later, Earlier}
use Rattle.merge.proofs.ChoiceLaws.{choice_merges}
use Rattle.table.specs.Cursor.{listed_entry, wanted, ringed, head_place}
use Rattle.table.specs.Writing.{due_of}
use Rattle.table.specs.declared.cursor.Want.{Want}
use Rattle.table.specs.declared.cursor.Want.TheVariants.{Positions as WantsPositions, Data as WantsData, Head, End}
use Rattle.table.specs.declared.writer.Due.TheVariants.{Data as DataDue, Positions as PositionsDue, Take, Next as NextDue}
use Rattle.table.proofs.CursorLaws.{cursor_right}
use Rattle.store.specs.House.{House}
use Rattle.flushing_store.specs.Control.{ring_of, list_of}
use Rattle.store.specs.Regions.{index_of, arena_of}
use Rattle.flushing_store.specs.Look.{extent_of}
use Rattle.flushing_store.specs.Round.{Went, memory_head, leads, memory_turn, table_turn, heads_turn, head_turn, block_in, block_turn, wanted_turn, next_turn, due_turn, settled_turn, round}
use Rattle.flushing_store.specs.Flush.{spun_from, spun}
use Rattle.flushing_store.specs.declared.control.Control.{Control}
use Rattle.flushing_store.specs.declared.control.Merging.{Merging}
use Rattle.flushing_store.specs.declared.turn.Turn.{Turn}
use Rattle.flushing_store.proofs.FlushAccount.{Job}
use Rattle.flushing_store.proofs.RoundAccount.{At, rounds_left, SameCounts, Rounded, more, fetches, settles, puts_data, puts_positions, closes_data, closes_positions}
use Rattle.flushing_store.proofs.PageRounds.{settle_round, data_round, positions_round, take_round}
use Rattle.flushing_store.proofs.NextRounds.{mine_first, memory_round, heads, table_round}
use Rattle.flushing_store.proofs.CloseRounds.{close_round}
use Rattle.std.specs.Prelude.{is_some}

alone : (x : Version) (xs : List Version) → merge (x ∷ xs) [] ≡ x ∷ merge xs []
alone x xs = merge_nil (x ∷ xs) ∙ ap (λ y. x ∷ y) (sym (merge_nil xs))

module _ (n pages : ℕ) (h : House) (j : Job n pages h) where
  abbrev To : Control → List ℕ → Went → Type 0
  To k m t = Rounded n pages h j k m t.turn t.memory

  module _ (k : Control) (m : List ℕ) (o : At n pages h j k m) (calm : k.merging.waiting < 254) (open_page : k.merging.writer.stream.fill < 504)
      (room : k.merging.writer.positions.fill < 504) (all_taken : k.merging.writer.hand.taken ≡ k.merging.writer.hand.len) where
    versions_are : k.base.table.versions ≡ length j.fresh
    versions_are = ap (λ b. b.table.versions) o.keeps.base_is ∙ j.counted

    -- the table's run is over
    without_table : o.merges.table_rest ≡ [] → To k m (head_turn k m [] None)
    unfolding head_turn
    without_table e = go (ltb k.merging.walked k.base.table.versions) refl
      where
        go : (b : Bool) → ltb k.merging.walked k.base.table.versions ≡ b → To k m (heads_turn k m [] (pick b (Some (get_or (index_of m) k.merging.walked 0)) None) None)
        go true x =
            let lt : k.merging.walked < length j.fresh = omega (arith, ltb-true _ _ x, versions_are) in
            memory_round n pages h j k m o room all_taken lt [] e (alone (version_in_arena (arena_of m) (get_or (index_of m) k.merging.walked 0)) (drop (suc k.merging.walked) (sort j.fresh)))
        go false x = close_round n pages h j k m o calm open_page room all_taken e (omega (arith, ltb-false _ _ x, versions_are))

    -- the table's run has a head
    module _ (x : wanted k.merging.cursor (extent_of j.list) (list_of m) ≡ Head) where
      abbrev theirs : Version
      theirs = (heads n pages h j k m o room all_taken x).version

      abbrev others : List Version
      others = (heads n pages h j k m o room all_taken x).others

      abbrev block : List ℕ
      block = ringed (listed_entry k.merging.cursor (list_of m)).begin (listed_entry k.merging.cursor (list_of m)).len (ring_of m)

      block_is : block_in k m ≡ block
      block_is =
          let e : min (listed_entry k.merging.cursor (list_of m)).len 1512 ≡ (listed_entry k.merging.cursor (list_of m)).len = omega (arith, (heads n pages h j k m o room all_taken x).short) in
          ap (λ i. ringed (listed_entry k.merging.cursor (list_of m)).begin i (ring_of m)) e

      their_key : key_at block (heads n pages h j k m o room all_taken x).place ≡ theirs.key
      their_key = ap (λ v. v.key) (heads n pages h j k m o room all_taken x).is

      both : (lt : k.merging.walked < length j.fresh) → To k m (pick (leads m (get_or (index_of m) k.merging.walked 0) block (heads n pages h j k m o room all_taken x).place)
          (memory_turn k m (get_or (index_of m) k.merging.walked 0)) (table_turn k m block (heads n pages h j k m o room all_taken x).place))
      unfolding leads version_in_arena
      both lt = go (before (key_at block (heads n pages h j k m o room all_taken x).place) (key_in (arena_of m) (get_or (index_of m) k.merging.walked 0))) refl
        where
          mine : Version
          mine = version_in_arena (arena_of m) (get_or (index_of m) k.merging.walked 0)

          go : (b : Bool) → before (key_at block (heads n pages h j k m o room all_taken x).place) (key_in (arena_of m) (get_or (index_of m) k.merging.walked 0)) ≡ b →
              To k m (pick (by_choice (pick b Earlier Later) true false false) (memory_turn k m (get_or (index_of m) k.merging.walked 0)) (table_turn k m block (heads n pages h j k m o room all_taken x).place))
          go true e =
              table_round n pages h j k m o room all_taken x
              (ap (λ y. merge y (theirs ∷ others)) (mine_first n pages h j k m o room all_taken lt)
              ∙ choice_merges.earlier (version_in_arena (arena_of m) (get_or (index_of m) k.merging.walked 0)) theirs _ others
              (ap (λ b. pick b Earlier Later) (ap (λ y. before y (key_in (arena_of m) (get_or (index_of m) k.merging.walked 0))) (sym their_key) ∙ e))
              ∙ ap (λ y. theirs ∷ merge y others) (sym (mine_first n pages h j k m o room all_taken lt)))
          go false e =
              memory_round n pages h j k m o room all_taken lt (theirs ∷ others) (heads n pages h j k m o room all_taken x).first
              (choice_merges.later (version_in_arena (arena_of m) (get_or (index_of m) k.merging.walked 0)) theirs _ others
              (ap (λ b. pick b Earlier Later) (ap (λ y. before y (key_in (arena_of m) (get_or (index_of m) k.merging.walked 0))) (sym their_key) ∙ e)))

      with_table : To k m (block_turn k m)
      unfolding block_turn head_turn
      with_table =
          subst (λ b. To k m (heads_turn k m b (memory_head k m) (head_place k.merging.cursor b))) (sym block_is)
          (subst (λ p. To k m (heads_turn k m block (memory_head k m) p)) (sym (heads n pages h j k m o room all_taken x).found) (go (ltb k.merging.walked k.base.table.versions) refl))
        where
          go : (b : Bool) → ltb k.merging.walked k.base.table.versions ≡ b →
              To k m (heads_turn k m block (pick b (Some (get_or (index_of m) k.merging.walked 0)) None) (Some (heads n pages h j k m o room all_taken x).place))
          go true y = both (omega (arith, ltb-true _ _ y, versions_are))
          go false y =
              let none : drop k.merging.walked (sort j.fresh) ≡ [] = drop_all k.merging.walked (sort j.fresh) (omega (arith, ltb-false _ _ y, versions_are, (sort_weighs j.fresh).1)) in
              table_round n pages h j k m o room all_taken x
              (ap (λ z. merge z (theirs ∷ others)) none ∙ choice_merges.earlier_alone (theirs ∷ others) ∙ ap (λ y. theirs ∷ y) (sym (choice_merges.earlier_alone others)) ∙ ap (λ z. theirs ∷ merge z others) (sym none))

    next_round : To k m (next_turn k m)
    unfolding next_turn
    next_round =
        subst (λ f. To k m (wanted_turn k m (wanted k.merging.cursor (extent_of f) (list_of m)))) (sym o.keeps.manifest_is)
        (go (wanted k.merging.cursor (extent_of j.list) (list_of m)) refl)
      where
        go : (x : Want) → wanted k.merging.cursor (extent_of j.list) (list_of m) ≡ x → To k m (wanted_turn k m x)
        go (WantsPositions q) e = fetches q (inl e)
        go (WantsData q) e = fetches q (inr e)
        go Head e = with_table e
        go End e = without_table (cursor_right.end (extent_of j.list) j.before h.safe k.merging.cursor (ring_of m) (list_of m) o.merges.table_rest o.merges.walking e)

  -- ONE ROUND
  pub rounded : (k : Control) (m : List ℕ) → At n pages h j k m → Rounded n pages h j k m (round k m).turn (round k m).memory
  unfolding round
  rounded k m o = by_waiting (leb 254 k.merging.waiting) refl
    where
      by_hand : (b : Bool) → ltb k.merging.writer.hand.taken k.merging.writer.hand.len ≡ b → k.merging.waiting < 254 → k.merging.writer.stream.fill < 504 → k.merging.writer.positions.fill < 504 →
          To k m (due_turn k m (pick b (Take (min (504 - k.merging.writer.stream.fill) (k.merging.writer.hand.len - k.merging.writer.hand.taken))) NextDue))
      by_hand true e c f l = take_round n pages h j k m o f (ltb-true _ _ e)
      by_hand false e c f l = next_round k m o c f l (omega (arith, ltb-false _ _ e, o.merges.owes.taken_part))

      by_list : (b : Bool) → leb 504 k.merging.writer.positions.fill ≡ b → k.merging.waiting < 254 → k.merging.writer.stream.fill < 504 →
          To k m (due_turn k m (pick b PositionsDue (pick (ltb k.merging.writer.hand.taken k.merging.writer.hand.len)
          (Take (min (504 - k.merging.writer.stream.fill) (k.merging.writer.hand.len - k.merging.writer.hand.taken))) NextDue)))
      by_list true e c f = positions_round n pages h j k m o c (leb-true _ _ e)
      by_list false e c f = by_hand (ltb k.merging.writer.hand.taken k.merging.writer.hand.len) refl c f (leb-false _ _ e)

      by_page : (b : Bool) → leb 504 k.merging.writer.stream.fill ≡ b → k.merging.waiting < 254 →
          To k m (due_turn k m (pick b DataDue (pick (leb 504 k.merging.writer.positions.fill) PositionsDue (pick (ltb k.merging.writer.hand.taken k.merging.writer.hand.len)
          (Take (min (504 - k.merging.writer.stream.fill) (k.merging.writer.hand.len - k.merging.writer.hand.taken))) NextDue))))
      by_page true e c = data_round n pages h j k m o c (leb-true _ _ e)
      by_page false e c = by_list (leb 504 k.merging.writer.positions.fill) refl c (leb-false _ _ e)

      by_waiting : (b : Bool) → leb 254 k.merging.waiting ≡ b → To k m (pick b (record { turn = settled_turn k; memory = m }) (due_turn k m (due_of k.merging.writer)))
      by_waiting true e = settle_round n pages h j k m o (leb-true _ _ e)
      by_waiting false e = by_page (leb 504 k.merging.writer.stream.fill) refl (leb-false _ _ e)

  -- MANY ROUNDS
  pub data Spun (k : Control) (m : List ℕ) (t : Went) : Type 0 where
    comes_to : (k₁ : Control) (m₁ : List ℕ) → At n pages h j k₁ m₁ → SameCounts n pages h j k.merging k₁.merging → Rounded n pages h j k₁ m₁ t.turn t.memory → is_some t.turn.deed ≡ true → Spun k m t

  same_all : (g : Merging) → SameCounts n pages h j g g
  same_all g = record { puts = refl; lists = refl; listed = refl; read = refl; waiting = refl }

  same_then : (a b c : Merging) → SameCounts n pages h j a b → SameCounts n pages h j b c → SameCounts n pages h j a c
  same_then a b c x y = record { puts = y.puts ∙ x.puts; lists = y.lists ∙ x.lists; listed = y.listed ∙ x.listed; read = y.read ∙ x.read; waiting = y.waiting ∙ x.waiting }

  further : (k k₁ : Control) (m m₁ : List ℕ) (t : Went) → SameCounts n pages h j k.merging k₁.merging → Spun k₁ m₁ t → Spun k m t
  further k k₁ m m₁ t s (comes_to k₂ m₂ a s₁ r e) = comes_to k₂ m₂ a (same_then k.merging k₁.merging k₂.merging s s₁) r e

  spin : (f : ℕ) (k : Control) (m : List ℕ) → At n pages h j k m → (t : Turn) (m₁ : List ℕ) → Rounded n pages h j k m t m₁ → rounds_left n pages h j k.merging ≤ f → Spun k m (spun_from (suc f) (record { turn = t; memory = m₁ }))
  unfolding spun_from
  spin zero k m o t m₁ (more k₁ m₂ a lt s) x = absurd (omega arith)
  spin (suc f) k m o t m₁ (more k₁ m₂ a lt s) x = further k k₁ m m₂ _ s (spin f k₁ m₂ a (round k₁ m₂).turn (round k₁ m₂).memory (rounded k₁ m₂ a) (omega arith))
  spin f k m o t m₁ (fetches q w) x = comes_to k m o (same_all k.merging) (fetches q w) refl
  spin f k m o t m₁ (settles k₁ a s w z) x = comes_to k m o (same_all k.merging) (settles k₁ a s w z) refl
  spin f k m o t m₁ (puts_data k₁ q a d e p l c) x = comes_to k m o (same_all k.merging) (puts_data k₁ q a d e p l c) refl
  spin f k m o t m₁ (puts_positions k₁ q a d e p l c) x = comes_to k m o (same_all k.merging) (puts_positions k₁ q a d e p l c) refl
  spin f k m o t m₁ (closes_data k₁ m₂ q a d e v p l z) x = comes_to k m o (same_all k.merging) (closes_data k₁ m₂ q a d e v p l z) refl
  spin f k m o t m₁ (closes_positions k₁ m₂ q g a b c d e v p) x = comes_to k m o (same_all k.merging) (closes_positions k₁ m₂ q g a b c d e v p) refl

  pub spun_comes : (k : Control) (m : List ℕ) → At n pages h j k m → Spun k m (spun 1024 k m)
  unfolding spun spun_from
  spun_comes k m o = spin 1022 k m o (round k m).turn (round k m).memory (rounded k m o) (few (ltb k.merging.writer.hand.taken k.merging.writer.hand.len))
    where
      few : (b : Bool) → 2 * (504 - k.merging.writer.stream.fill) + pick b 0 1 ≤ 1022
      few true = omega arith
      few false = omega arith

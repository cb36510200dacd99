-- A round of a merge, turn by turn.
use Rattle.std.proofs.Common.{◌≡◌, ℕ, ◌<◌, ◌≤◌, min, true, false, List, [], length, take, drop, Some, None, Option, sym, refl, ap, ◌∙◌, le-leb}
use borrow.Author.Tests.{lt-leb}
use Rattle.std.proofs.lemmas.List.{take_at}
use Rattle.value.specs.Versions.{Version}
use Rattle.value.specs.Encoding.{key_at, version_at}
use Rattle.value.specs.declared.version.Place.{Place}
use Rattle.memtable.specs.Arena.{key_at as key_in}
use Rattle.merge.specs.Choice.{chosen, by_choice}
use Rattle.merge.specs.declared.choice.Next.TheVariants.{Later, Earlier}
use Rattle.table.specs.Writing.{due_of}
use Rattle.table.specs.Cursor.{listed_entry, wanted, ringed, block_with, head_place, advanced}
use Rattle.table.proofs.RingLaws.{length_ringed}
use Rattle.table.specs.declared.cursor.Cursor.{Cursor}
use Rattle.table.specs.declared.cursor.Want.{Want}
use Rattle.table.specs.declared.cursor.Want.TheVariants.{Positions as WantsPositions, Data as WantsData, Head, End}
use Rattle.table.specs.declared.lookup.Entry.{Entry}
use Rattle.table.specs.declared.writer.Writer.{Writer}
use Rattle.table.specs.declared.writer.Due.{Due}
use Rattle.table.specs.declared.writer.Due.TheVariants.{Data as DataDue, Positions as PositionsDue, Take, Next}
use Rattle.flushing_store.specs.Control.{list_of}
use Rattle.store.specs.Regions.{arena_of}
use Rattle.flushing_store.specs.Stage.{version_of}
use Rattle.flushing_store.specs.Look.{extent_of}
use Rattle.flushing_store.specs.Give.{given_writer, given_memory}
use Rattle.flushing_store.specs.Round.{a_turn, with_writer, with_cursor, walked_on, handed_turn, settled_turn, data_turn, positions_turn, took_turn, took_bytes, memory_head, leads, memory_turn, table_turn, closed_turn, head_turn, block_in, block_turn, next_turn, round}
use Rattle.flushing_store.specs.declared.control.Control.{Control}
use Rattle.flushing_store.specs.declared.turn.Deed.TheVariants.{Fetch}
use Rattle.flushing_store.specs.declared.turn.Turn.{Turn}

pub leads_later : (m : List ℕ) (at : ℕ) (block : List ℕ) (p : Place) (ks js : List ℕ) → ks ≡ key_in (arena_of m) at → js ≡ key_at block p → Later ≡ chosen (Some ks) (Some js) → true ≡ leads m at block p
unfolding leads
leads_later m at block p ks js e f g = ap (λ x. by_choice x true false false) (g ∙ (λ i. chosen (Some (e i)) (Some (f i))))

pub leads_earlier : (m : List ℕ) (at : ℕ) (block : List ℕ) (p : Place) (ks js : List ℕ) → ks ≡ key_in (arena_of m) at → js ≡ key_at block p → Earlier ≡ chosen (Some ks) (Some js) → false ≡ leads m at block p
unfolding leads
leads_earlier m at block p ks js e f g = ap (λ x. by_choice x true false false) (g ∙ (λ i. chosen (Some (e i)) (Some (f i))))

-- a version is handed over
module _ (k : Control) (m : List ℕ) (v : Version) (o : Option Writer) (e : o ≡ given_writer k.merging.writer v) (m₁ : List ℕ) (f : m₁ ≡ given_memory k.merging.writer v m) where
  pub memory_none : (at : ℕ) → v ≡ version_of (arena_of m) at → o ≡ None → (a_turn k None ≡ (memory_turn k m at).turn) × (m₁ ≡ (memory_turn k m at).memory)
  unfolding memory_turn
  memory_none at g h = rw (← g, ← e, h) (refl, f)

  pub memory_some : (at : ℕ) (w : Writer) → v ≡ version_of (arena_of m) at → o ≡ Some w → (a_turn (with_writer (walked_on k) w) None ≡ (memory_turn k m at).turn) × (m₁ ≡ (memory_turn k m at).memory)
  unfolding memory_turn
  memory_some at w g h = rw (← g, ← e, h) (refl, f)

  pub table_none : (block : List ℕ) (p : Place) → v ≡ version_at block p → o ≡ None → (a_turn k None ≡ (table_turn k m block p).turn) × (m₁ ≡ (table_turn k m block p).memory)
  unfolding table_turn
  table_none block p g h =
      let c = advanced k.merging.cursor (listed_entry k.merging.cursor (list_of m)) p in
      (ap (handed_turn k (with_cursor k c)) (sym h ∙ e ∙ ap (given_writer k.merging.writer) g), f ∙ ap (λ x. given_memory k.merging.writer x m) g)

  pub table_some : (block : List ℕ) (p : Place) (w : Writer) (c : Cursor) → v ≡ version_at block p → o ≡ Some w → c ≡ advanced k.merging.cursor (listed_entry k.merging.cursor (list_of m)) p →
      (a_turn (with_writer (with_cursor k c) w) None ≡ (table_turn k m block p).turn) × (m₁ ≡ (table_turn k m block p).memory)
  unfolding table_turn
  table_some block p w c g h q = (
    ap (λ x. a_turn (with_writer (with_cursor k x) w) None) q
        ∙ ap (handed_turn k (with_cursor k (advanced k.merging.cursor (listed_entry k.merging.cursor (list_of m)) p))) (sym h ∙ e ∙ ap (given_writer k.merging.writer) g),
    f ∙ ap (λ x. given_memory k.merging.writer x m) g,
  )

-- the heads
module _ (k : Control) (m block : List ℕ) (h : Option ℕ) (e : h ≡ memory_head k m) (o : Option Place) (t : Turn) (m₁ : List ℕ) where
  abbrev pub Over : Type 0
  Over = (t ≡ (head_turn k m block o).turn) × (m₁ ≡ (head_turn k m block o).memory)

  pub over_end : h ≡ None → o ≡ None → t ≡ (closed_turn k m).turn → m₁ ≡ (closed_turn k m).memory → Over
  unfolding head_turn
  over_end f g a b = rw (← e, f, g) (a, b)

  pub over_memory : (at : ℕ) → h ≡ Some at → o ≡ None → t ≡ (memory_turn k m at).turn → m₁ ≡ (memory_turn k m at).memory → Over
  unfolding head_turn
  over_memory at f g a b = rw (← e, f, g) (a, b)

  pub over_table : (p : Place) → h ≡ None → o ≡ Some p → t ≡ (table_turn k m block p).turn → m₁ ≡ (table_turn k m block p).memory → Over
  unfolding head_turn
  over_table p f g a b = rw (← e, f, g) (a, b)

  pub over_first : (at : ℕ) (p : Place) → h ≡ Some at → o ≡ Some p → true ≡ leads m at block p → t ≡ (memory_turn k m at).turn → m₁ ≡ (memory_turn k m at).memory → Over
  unfolding head_turn
  over_first at p f g l a b = rw (← e, f, g, ← l) (a, b)

  pub over_second : (at : ℕ) (p : Place) → h ≡ Some at → o ≡ Some p → false ≡ leads m at block p → t ≡ (table_turn k m block p).turn → m₁ ≡ (table_turn k m block p).memory → Over
  unfolding head_turn
  over_second at p f g l a b = rw (← e, f, g, ← l) (a, b)

pub ring_front : (e e₁ : Entry) (ring row₀ row bs : List ℕ) (n : ℕ) → length row₀ ≡ 1512 → e ≡ e₁ → n ≡ min e.len (length row₀) → row ≡ block_with e ring row₀ → bs ≡ take n row →
    bs ≡ ringed e₁.begin (min e₁.len 1512) ring
ring_front e e₁ ring row₀ row bs n l f g h i =
    let k : ℕ = min e.len (length row₀) in
    i ∙ (λ x. take (g x) (h x)) ∙ take_at (ringed e.begin k ring) (drop k row₀) k (length_ringed e.begin k ring) ∙ (λ x. ringed (f x).begin (min (f x).len (l x)) ring)

pub block_is : (k : Control) (m block : List ℕ) (o : Option Place) (t : Turn) (m₁ : List ℕ) → block ≡ block_in k m → o ≡ head_place k.merging.cursor block →
    t ≡ (head_turn k m block o).turn → m₁ ≡ (head_turn k m block o).memory → (t ≡ (block_turn k m).turn) × (m₁ ≡ (block_turn k m).memory)
unfolding block_turn
block_is k m block o t m₁ e f a b = rw (← e, ← f) (a, b)

-- what the cursor waits for
module _ (k : Control) (m : List ℕ) (w : Want) (e : w ≡ wanted k.merging.cursor (extent_of k.manifest) (list_of m)) where
  pub next_positions : (q : ℕ) → w ≡ WantsPositions q → (a_turn k (Some (Fetch q)) ≡ (next_turn k m).turn) × (m ≡ (next_turn k m).memory)
  unfolding next_turn
  next_positions q f = rw (← e, f) (refl, refl)

  pub next_data : (q : ℕ) → w ≡ WantsData q → (a_turn k (Some (Fetch q)) ≡ (next_turn k m).turn) × (m ≡ (next_turn k m).memory)
  unfolding next_turn
  next_data q f = rw (← e, f) (refl, refl)

  pub next_head : (t : Turn) (m₁ : List ℕ) → w ≡ Head → t ≡ (block_turn k m).turn → m₁ ≡ (block_turn k m).memory → (t ≡ (next_turn k m).turn) × (m₁ ≡ (next_turn k m).memory)
  unfolding next_turn
  next_head t m₁ f a b = rw (← e, f) (a, b)

  pub next_end : (t : Turn) (m₁ : List ℕ) → w ≡ End → t ≡ (head_turn k m [] None).turn → m₁ ≡ (head_turn k m [] None).memory → (t ≡ (next_turn k m).turn) × (m₁ ≡ (next_turn k m).memory)
  unfolding next_turn
  next_end t m₁ f a b = rw (← e, f) (a, b)

-- what is due
module _ (k : Control) (m : List ℕ) where
  pub round_settles : 254 ≤ k.merging.waiting → (t : Turn) → t ≡ settled_turn k → (t ≡ (round k m).turn) × (m ≡ (round k m).memory)
  unfolding round
  round_settles h t a = rw (le-leb 254 k.merging.waiting h) (a, refl)

  module _ (h : k.merging.waiting < 254) (d : Due) (e : d ≡ due_of k.merging.writer) where
    pub round_data : d ≡ DataDue → (t : Turn) → t ≡ data_turn k → (t ≡ (round k m).turn) × (m ≡ (round k m).memory)
    unfolding round
    round_data f t a = rw (lt-leb 254 k.merging.waiting h, ← e, f) (a, refl)

    pub round_positions : d ≡ PositionsDue → (t : Turn) → t ≡ positions_turn k → (t ≡ (round k m).turn) × (m ≡ (round k m).memory)
    unfolding round
    round_positions f t a = rw (lt-leb 254 k.merging.waiting h, ← e, f) (a, refl)

    pub round_takes : (n : ℕ) → d ≡ Take n → (t : Turn) (m₁ : List ℕ) → t ≡ took_turn k n → m₁ ≡ took_bytes k.merging.writer.hand.taken k.merging.writer.stream.fill n m →
        (t ≡ (round k m).turn) × (m₁ ≡ (round k m).memory)
    unfolding round
    round_takes n f t m₁ a b = rw (lt-leb 254 k.merging.waiting h, ← e, f) (a, b)

    pub round_next : d ≡ Next → (t : Turn) (m₁ : List ℕ) → t ≡ (next_turn k m).turn → m₁ ≡ (next_turn k m).memory → (t ≡ (round k m).turn) × (m₁ ≡ (round k m).memory)
    unfolding round
    round_next f t m₁ a b = rw (lt-leb 254 k.merging.waiting h, ← e, f) (a, b)

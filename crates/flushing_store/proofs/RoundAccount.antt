-- What a round of a flush leaves: it goes on, with less to do till a page is due; or a page is to be read or put, or all that wait settled; or the table is closed.
use Rattle.std.proofs.Common.{◌≡◌, ℕ, suc, ◌+◌, ◌-◌, ◌*◌, ◌<◌, ◌≤◌, min, true, ltb, ◌⊎◌, List, length, sym, ap, ◌∙◌, arith, Some, None}
use Rattle.value.specs.Versions.{pick, every, weight}
use Rattle.value.specs.Encoding.{fits}
use Rattle.value.specs.Sorted.{sort}
use Rattle.value.proofs.TestLaws.{every_append}
use Rattle.table.proofs.SizeLaws.{added_append}
use Rattle.table.specs.Device.{a_page}
use Rattle.table.specs.Layout.{blocks, table_stream}
use Rattle.table.specs.Sizes.{page_count, position_pages}
use Rattle.table.specs.Stream.{sealed, page_of}
use Rattle.table.specs.Row.{octets}
use Rattle.table.specs.Writing.{wrap}
use Rattle.table.specs.Cursor.{wanted}
use Rattle.table.specs.declared.cursor.Want.TheVariants.{Positions as WantsPositions, Data as WantsData}
use Rattle.manifest.specs.Places.{half_start, other, half_pages}
use Rattle.manifest.specs.declared.fields.Half.{Half}
use Rattle.manifest.specs.declared.fields.Half.TheVariants.{First, Second}
use Rattle.store.specs.House.{House}
use Rattle.flushing_store.specs.Control.{list_of, data_of, entries_of}
use Rattle.flushing_store.specs.Look.{extent_of}
use Rattle.flushing_store.specs.Target.{new_weight, new_start, new_data}
use Rattle.flushing_store.specs.Round.{a_turn}
use Rattle.flushing_store.specs.declared.control.Phase.{Phase}
use Rattle.flushing_store.specs.declared.control.Phase.TheVariants.{Merging as MergingPhase, Closed, Placed}
use Rattle.flushing_store.specs.declared.control.Merging.{Merging}
use Rattle.flushing_store.specs.declared.control.Control.{Control}
use Rattle.flushing_store.specs.declared.turn.Deed.TheVariants.{Fetch, Data, Positions, Settle}
use Rattle.flushing_store.specs.declared.turn.Turn.{Turn}
use Rattle.flushing_store.proofs.RegionLaws.{SmallCursor, SmallWriter}
use Rattle.flushing_store.proofs.FlushAccount.{Job, new_stream, new_entries, start_page, data_page, KeepsMemory, Merges, LastPage}
use Rattle.flushing_store.proofs.WorkLaws.{table_fits_half}

module _ (n pages : ℕ) (h : House) (j : Job n pages h) where
  -- THE NEW TABLE'S PLACE is a matter of the job alone
  pub all_fit : every fits h.versions ≡ true
  all_fit = ap (every fits) j.all_is ∙ every_append fits h.safe j.fresh j.stored.fit j.fit

  pub weight_is : j.list.weight.all + j.table.weight ≡ weight h.versions
  weight_is =
      (λ i. j.stored.weighs i + j.weighed i) ∙ sym (added_append (λ v. 64 + length v.key + length v.value) h.safe j.fresh) ∙ ap weight (sym j.all_is)

  pub start_is : (p : Phase) (k : Control) (m : List ℕ) → KeepsMemory n pages h j p k m → new_start k ≡ start_page n pages h j
  start_is p k m o = λ i. half_start (o.base_is i).pages (other (o.manifest_is i).layout.half)

  pub new_weight_is : (p : Phase) (k : Control) (m : List ℕ) → KeepsMemory n pages h j p k m → new_weight k ≡ weight h.versions
  new_weight_is p k m o =
      let e : wrap (j.list.weight.all + j.table.weight) ≡ j.list.weight.all + j.table.weight = omega (arith, weight_is, j.room, j.stored.few) in
      (λ i. wrap ((o.manifest_is i).weight.all + (o.base_is i).table.weight)) ∙ e ∙ weight_is

  pub half_room : position_pages (weight h.versions) + page_count (length (table_stream (sort h.versions))) ≤ half_pages pages
  half_room = table_fits_half pages h.versions j.stored.many j.room all_fit

  pub start_small : start_page n pages h j + half_pages pages ≤ 1048576
  start_small = go (other j.list.layout.half)
    where
      go : (x : Half) → half_start pages x + half_pages pages ≤ 1048576
      go First = omega (arith, j.stored.few)
      go Second = omega (arith, j.stored.few)

  pub data_is : (p : Phase) (k : Control) (m : List ℕ) → KeepsMemory n pages h j p k m → new_data k ≡ data_page n pages h j
  data_is p k m o =
      let e : wrap (start_page n pages h j + position_pages (weight h.versions)) ≡ start_page n pages h j + position_pages (weight h.versions) = omega (arith, start_small, half_room) in
      (λ i. wrap (start_is p k m o i + position_pages (new_weight_is p k m o i))) ∙ e

  -- A ROUND
  pub record At (k : Control) (m : List ℕ) : Type 0 where
    pub keeps : KeepsMemory n pages h j MergingPhase k m
    pub merges : Merges n pages h j k.merging m

  -- at most so many rounds come before a page is due
  abbrev pub rounds_left : Merging → ℕ
  rounds_left g = 2 * (504 - g.writer.stream.fill) + pick (ltb g.writer.hand.taken g.writer.hand.len) 0 1

  pub record SameCounts (g g₁ : Merging) : Type 0 where
    pub puts : g₁.writer.stream.put ≡ g.writer.stream.put
    pub lists : g₁.writer.positions.put ≡ g.writer.positions.put
    pub listed : g₁.cursor.listed ≡ g.cursor.listed
    pub read : g₁.cursor.read ≡ g.cursor.read
    pub waiting : g₁.waiting ≡ g.waiting

  -- a page that is put is the next of the new table
  pub record NextData (g : Merging) (m : List ℕ) : Type 0 where
    pub number : g.writer.stream.put < page_count (length (new_stream n pages h j))
    pub is : page_of (new_stream n pages h j) g.writer.stream.put ≡ sealed (octets (min g.writer.stream.fill 504) (data_of m))
    pub page : a_page (sealed (octets (min g.writer.stream.fill 504) (data_of m))) ≡ true

  pub record NextPositions (g : Merging) (m : List ℕ) : Type 0 where
    pub number : g.writer.positions.put < page_count (length (new_entries n pages h j))
    pub is : page_of (new_entries n pages h j) g.writer.positions.put ≡ sealed (octets (min g.writer.positions.fill 504) (entries_of m))
    pub page : a_page (sealed (octets (min g.writer.positions.fill 504) (entries_of m))) ≡ true

  -- nothing is left to be handed over
  pub record Over (g : Merging) : Type 0 where
    pub counted : g.writer.block.count ≡ length (blocks (sort h.versions))
    pub datas : g.writer.stream.put ≡ page_count (length (new_stream n pages h j))
    pub small_cursor : SmallCursor g.cursor
    pub small_writer : SmallWriter g.writer
    pub small_walked : g.walked < 18446744073709551616
    pub small_waiting : g.waiting < 18446744073709551616

  pub data Rounded (k : Control) (m : List ℕ) : Turn → List ℕ → Type 0 where
    more : (k₁ : Control) (m₁ : List ℕ) → At k₁ m₁ → rounds_left k₁.merging < rounds_left k.merging → SameCounts k.merging k₁.merging → Rounded k m (a_turn k₁ None) m₁
    fetches : (q : ℕ) → (wanted k.merging.cursor (extent_of j.list) (list_of m) ≡ WantsPositions q) ⊎ (wanted k.merging.cursor (extent_of j.list) (list_of m) ≡ WantsData q) → Rounded k m (a_turn k (Some (Fetch q))) m
    settles : (k₁ : Control) → At k₁ m → SameCounts k.merging (record { cursor = k₁.merging.cursor; writer = k₁.merging.writer; walked = k₁.merging.walked; waiting = k.merging.waiting }) →
        254 ≤ k.merging.waiting → k₁.merging.waiting ≡ 0 → Rounded k m (a_turn k₁ (Some Settle)) m
    puts_data : (k₁ : Control) (q : ℕ) → At k₁ m → NextData k.merging m → q ≡ data_page n pages h j + k.merging.writer.stream.put →
        k₁.merging.writer.stream.put ≡ suc k.merging.writer.stream.put → k₁.merging.writer.positions.put ≡ k.merging.writer.positions.put → k₁.merging.cursor ≡ k.merging.cursor →
        Rounded k m (a_turn k₁ (Some (Data q k.merging.writer.stream.fill))) m
    puts_positions : (k₁ : Control) (q : ℕ) → At k₁ m → NextPositions k.merging m → q ≡ start_page n pages h j + k.merging.writer.positions.put →
        k₁.merging.writer.positions.put ≡ suc k.merging.writer.positions.put → k₁.merging.writer.stream.put ≡ k.merging.writer.stream.put → k₁.merging.cursor ≡ k.merging.cursor →
        Rounded k m (a_turn k₁ (Some (Positions q k.merging.writer.positions.fill))) m
    closes_data : (k₁ : Control) (m₁ : List ℕ) (q : ℕ) → KeepsMemory n pages h j Closed k₁ m₁ → NextData k.merging m₁ → q ≡ data_page n pages h j + k.merging.writer.stream.put →
        Over k₁.merging → k₁.merging.writer.stream.put ≡ suc k.merging.writer.stream.put → k₁.merging.writer.positions.put ≡ k.merging.writer.positions.put → LastPage n pages h j k₁.merging m₁ →
        Rounded k m (a_turn k₁ (Some (Data q k.merging.writer.stream.fill))) m₁
    closes_positions : (k₁ : Control) (m₁ : List ℕ) (q f : ℕ) → KeepsMemory n pages h j Placed k₁ m₁ →
        suc k.merging.writer.positions.put ≡ page_count (length (new_entries n pages h j)) →
        page_of (new_entries n pages h j) k.merging.writer.positions.put ≡ sealed (octets (min f 504) (entries_of m₁)) → a_page (sealed (octets (min f 504) (entries_of m₁))) ≡ true →
        q ≡ start_page n pages h j + k.merging.writer.positions.put →
        Over k₁.merging → k₁.merging.writer.stream.put ≡ k.merging.writer.stream.put → Rounded k m (a_turn k₁ (Some (Positions q f))) m₁

-- A round that hands a version over: what is owed is the rest.
use Rattle.std.proofs.Common.{◌≡◌, ℕ, suc, ◌+◌, ◌-◌, ◌*◌, ◌<◌, ◌≤◌, Bool, true, false, eqb, ltb, List, [], ◌∷◌, ◌++◌, length, drop, sym, refl, ap, ◌∙◌, subst, append-nil, arith, length-append, eqb-true}
use borrow.Author.Tests.{eqb-false}
use Rattle.value.specs.Versions.{pick, or, Version, version}
use Rattle.value.specs.Encoding.{fits, encoded_length}
use Rattle.value.specs.Sorted.{sort, merge}
use Rattle.memtable.specs.Arena.{key_at, moment_at, version_at}
use Rattle.table.specs.Layout.{entry, block_limit}
use Rattle.table.specs.Row.{octets}
use Rattle.table.specs.Writing.{wrap, writer, begins, gave, brings, ends_block, Owes}
use Rattle.table.specs.declared.writer.Writer.{Writer}
use Rattle.table.proofs.RowLaws.{length_octets}
use Rattle.table.proofs.SizeLaws.{short_version, length_entry}
use Rattle.table.proofs.WritingLaws.{gives}
use Rattle.value.proofs.TestLaws.{clash}
use Rattle.store.specs.House.{House}
use Rattle.flushing_store.specs.Control.{memory_words, stage_region, ring_of, list_of, hand_of, data_of, entries_of}
use Rattle.store.specs.Regions.{region, index_of, arena_of}
use Rattle.flushing_store.specs.Stage.{staged}
use Rattle.flushing_store.specs.Give.{bound_after, brought, ended_block, in_hand, with_entry, given_memory}
use Rattle.flushing_store.specs.declared.control.Control.{Control}
use Rattle.flushing_store.proofs.RegionLaws.{SmallWriter}
use Rattle.flushing_store.proofs.FlushAccount.{Job, new_stream, new_entries, Staged, last_given}
use Rattle.flushing_store.proofs.RoundAccount.{At}
use Rattle.flushing_store.proofs.HandLaws.{fits_limits, bare_fits, bound_is, brought_bytes, brought_long, brought_some, hand_long, hand_below, hand_above, hand_there, ended_none, ended_long, ended_below, ended_there, staged_long, staged_above, staged_below, staged_there}

-- what a version that is handed over leaves
pub record Gave (n pages : ℕ) (h : House) (j : Job n pages h) (k : Control) (m : List ℕ) (v : Version) (rest : List Version) (w₁ : Writer) (m₁ : List ℕ) : Type 0 where
  pub long : length m₁ ≡ memory_words
  pub index_same : index_of m₁ ≡ index_of m
  pub arena_same : arena_of m₁ ≡ arena_of m
  pub ring_same : ring_of m₁ ≡ ring_of m
  pub list_same : list_of m₁ ≡ list_of m
  pub owes : Owes (new_stream n pages h j) (new_entries n pages h j) w₁ (octets w₁.stream.fill (data_of m₁)) (octets w₁.hand.len (hand_of m₁)) (octets w₁.positions.fill (entries_of m₁)) (v ∷ []) rest
  pub staged_it : Staged n pages h j m₁ w₁.block.count (v ∷ [])
  pub listed : 504 * w₁.positions.put + w₁.positions.fill ≡ 8 * (w₁.block.count - 1)
  pub hand_fits : w₁.hand.len ≤ 1302
  pub hand_some : w₁.hand.taken < w₁.hand.len
  pub small : SmallWriter w₁
  pub fill_same : w₁.stream.fill ≡ k.merging.writer.stream.fill
  pub puts_same : w₁.stream.put ≡ k.merging.writer.stream.put
  pub lists_same : w₁.positions.put ≡ k.merging.writer.positions.put

module _ (n pages : ℕ) (h : House) (j : Job n pages h) (k : Control) (m : List ℕ) (o : At n pages h j k m) (v : Version) (rest : List Version) (fit : fits v ≡ true)
    (room : k.merging.writer.positions.fill < 504) (all_taken : k.merging.writer.hand.taken ≡ k.merging.writer.hand.len)
    (owed : merge (drop k.merging.walked (sort j.fresh)) o.merges.table_rest ≡ v ∷ rest) where
  abbrev w : Writer
  w = k.merging.writer

  abbrev size : ℕ
  size = encoded_length v

  abbrev bs : List ℕ
  bs = brought (begins w size) (bound_after w.block.count m v.key) v

  abbrev m₁ : List ℕ
  m₁ = in_hand bs m

  abbrev m₂ : List ℕ
  m₂ = with_entry (begins w size) w m₁

  abbrev m₃ : List ℕ
  m₃ = staged (version v.key v.moment v.gone []) m₂

  pub given_is : given_memory w v m ≡ m₃
  unfolding given_memory
  given_is = rw (fits_limits v fit) refl

  long₁ : length m₁ ≡ memory_words
  long₁ = hand_long m o.keeps.long bs

  long₂ : length m₂ ≡ memory_words
  long₂ = go (begins w size)
    where
      go : (b : Bool) → length (pick b (ended_block w m₁) m₁) ≡ memory_words
      go true = ended_long w m₁ long₁
      go false = long₁

  entry_below : (a c : ℕ) → a + c ≤ 152016 → region a c m₂ ≡ region a c m₁
  entry_below a c x = go (begins w size)
    where
      go : (b : Bool) → region a c (pick b (ended_block w m₁) m₁) ≡ region a c m₁
      go true = ended_below w m₁ long₁ a c x
      go false = refl

  -- memory's own regions, and those of the table's run
  below_stage : (a c : ℕ) → a + c ≤ 147520 → region a c m₃ ≡ region a c m
  below_stage a c x = staged_below m₂ long₂ (version v.key v.moment v.gone []) a c x ∙ entry_below a c (omega arith) ∙ hand_below m o.keeps.long bs a c (omega arith)

  below_hand : (a c : ℕ) → 147682 ≤ a → a + c ≤ 150202 → region a c m₃ ≡ region a c m
  below_hand a c x y = staged_above m₂ long₂ (version v.key v.moment v.gone []) a c x ∙ entry_below a c (omega arith) ∙ hand_below m o.keeps.long bs a c y

  data_same : data_of m₃ ≡ data_of m
  data_same = staged_above m₂ long₂ (version v.key v.moment v.gone []) 151512 504 (omega arith) ∙ entry_below 151512 504 (omega arith) ∙ hand_above m o.keeps.long bs 151512 504 (omega arith)

  -- what is owed then
  gave_owes : Owes (new_stream n pages h j) (new_entries n pages h j) (gave w size) (octets w.stream.fill (data_of m)) (brings w o.merges.given v)
      (octets w.positions.fill (entries_of m) ++ ends_block w v) (v ∷ []) rest
  gave_owes =
      gives (new_stream n pages h j) (new_entries n pages h j) w _ _ _ o.merges.given v rest room all_taken
      (subst (λ r. Owes (new_stream n pages h j) (new_entries n pages h j) w (octets w.stream.fill (data_of m)) (octets w.hand.len (hand_of m)) (octets w.positions.fill (entries_of m)) o.merges.given r) owed o.merges.owes)

  brings_is : bs ≡ brings w o.merges.given v
  brings_is = ap (λ s. brought (begins w size) s v) (bound_is n pages h j m v w.block.count o.merges.given o.merges.staged)

  len_is : (gave w size).hand.len ≡ length bs
  len_is = sym gave_owes.in_hand ∙ ap length (sym brings_is)

  hand_is : octets (gave w size).hand.len (hand_of m₃) ≡ brings w o.merges.given v
  hand_is =
      (λ i. octets (len_is i) ((staged_above m₂ long₂ (version v.key v.moment v.gone []) 150202 1310 (omega arith) ∙ entry_below 150202 1310 (omega arith)) i))
      ∙ hand_there m o.keeps.long bs (brought_bytes (begins w size) _ v fit) (brought_long (begins w size) _ v fit) ∙ brings_is

  -- the page of positions, with the entry or without
  even : w.positions.fill + 8 ≤ 504
  even = omega (arith, room, o.merges.owes.list_even)

  entries_are : (b c : Bool) → eqb w.block.count 0 ≡ c →
      octets (length (octets w.positions.fill (entries_of m) ++ pick b (pick c [] (entry w.block.begin w.block.used)) [])) (entries_of (pick b (ended_block w m₁) m₁))
      ≡ octets w.positions.fill (entries_of m) ++ pick b (pick c [] (entry w.block.begin w.block.used)) []
  entries_are false c e =
      let l : length (octets w.positions.fill (entries_of m) ++ []) ≡ w.positions.fill = ap length (append-nil (octets w.positions.fill (entries_of m))) ∙ length_octets w.positions.fill (entries_of m) in
      (λ i. octets (l i) (hand_above m o.keeps.long bs 152016 504 (omega arith) i)) ∙ sym (append-nil (octets w.positions.fill (entries_of m)))
  entries_are true true e =
      let l : length (octets w.positions.fill (entries_of m) ++ []) ≡ w.positions.fill = ap length (append-nil (octets w.positions.fill (entries_of m))) ∙ length_octets w.positions.fill (entries_of m) in
      (λ i. octets (l i) ((ap entries_of (ended_none w m₁ long₁ e) ∙ hand_above m o.keeps.long bs 152016 504 (omega arith)) i)) ∙ sym (append-nil (octets w.positions.fill (entries_of m)))
  entries_are true false e =
      let l : length (octets w.positions.fill (entries_of m) ++ entry w.block.begin w.block.used) ≡ w.positions.fill + 8 =
      length-append (octets w.positions.fill (entries_of m)) (entry w.block.begin w.block.used) ∙ (λ i. length_octets w.positions.fill (entries_of m) i + length_entry w.block.begin w.block.used i) in
      ap (λ i. octets i (entries_of (ended_block w m₁))) l ∙ ended_there w m₁ long₁ e even ∙ ap (λ y. octets w.positions.fill y ++ entry w.block.begin w.block.used) (hand_above m o.keeps.long bs 152016 504 (omega arith))

  list_is : octets (gave w size).positions.fill (entries_of m₃) ≡ octets w.positions.fill (entries_of m) ++ ends_block w v
  list_is =
      (λ i. octets (sym gave_owes.on_list i) (staged_above m₂ long₂ (version v.key v.moment v.gone []) 152016 504 (omega arith) i))
      ∙ entries_are (begins w size) (eqb w.block.count 0) refl

  -- blocks are counted, and their entries listed
  numbers : (b c : Bool) → begins w size ≡ b → eqb w.block.count 0 ≡ c →
      (0 < pick b (wrap (w.block.count + 1)) w.block.count)
      × (504 * w.positions.put + pick b (pick c w.positions.fill (wrap (w.positions.fill + 8))) w.positions.fill ≡ 8 * (pick b (wrap (w.block.count + 1)) w.block.count - 1))
  numbers true true e f = (omega (arith, o.merges.owes.few), omega (arith, o.merges.owes.few, o.merges.listed, eqb-true w.block.count 0 f))
  numbers true false e f =
      let z : w.block.count ≡ 0 → ⊥ = eqb-false w.block.count 0 f in
      (omega (arith, o.merges.owes.few), omega (arith, o.merges.owes.few, o.merges.listed, even, z))
  numbers false true e f = absurd (clash_begins e f)
    where
      clash_begins : begins w size ≡ false → eqb w.block.count 0 ≡ true → ⊥
      clash_begins x y = let z : ◌≡◌ {A = Bool} true false = sym (ap (λ b. or b (ltb block_limit (w.block.used + size))) y) ∙ x in clash true refl z
  numbers false false e f = (let z : w.block.count ≡ 0 → ⊥ = eqb-false w.block.count 0 f in omega (arith, z), o.merges.listed)

  small_gave : (b c : Bool) → SmallWriter (pick b (writer (pick c 0 (wrap (w.block.begin + w.block.used))) (wrap (size + 8)) (wrap (w.block.count + 1)) (wrap (size + 8)) 0
      w.stream.fill w.stream.put (pick c w.positions.fill (wrap (w.positions.fill + 8))) w.positions.put)
      (writer w.block.begin (wrap (w.block.used + size)) w.block.count size 0 w.stream.fill w.stream.put w.positions.fill w.positions.put))
  small_gave b c =
      let s = o.merges.small_writer in
      go b c s (short_version v (fits_limits v fit)).1
    where
      go : (b c : Bool) → SmallWriter w → size ≤ 1294 → SmallWriter (pick b (writer (pick c 0 (wrap (w.block.begin + w.block.used))) (wrap (size + 8)) (wrap (w.block.count + 1)) (wrap (size + 8)) 0
          w.stream.fill w.stream.put (pick c w.positions.fill (wrap (w.positions.fill + 8))) w.positions.put)
          (writer w.block.begin (wrap (w.block.used + size)) w.block.count size 0 w.stream.fill w.stream.put w.positions.fill w.positions.put))
      go true true s x = record { begin = omega arith; used = omega arith; count = omega arith; len = omega arith; taken = omega arith; fill = s.fill; put = s.put; listed = s.listed; lists = s.lists }
      go true false s x = record { begin = omega arith; used = omega arith; count = omega arith; len = omega arith; taken = omega arith; fill = s.fill; put = s.put; listed = omega arith; lists = s.lists }
      go false c s x = record { begin = s.begin; used = omega arith; count = s.count; len = omega arith; taken = omega arith; fill = s.fill; put = s.put; listed = s.listed; lists = s.lists }

  -- the parts of the writer that stay
  record Stays (w₁ : Writer) : Type 0 where
    fill : w₁.stream.fill ≡ w.stream.fill
    put : w₁.stream.put ≡ w.stream.put
    lists : w₁.positions.put ≡ w.positions.put
    none_taken : w₁.hand.taken ≡ 0

  stays : (b c : Bool) → Stays (pick b (writer (pick c 0 (wrap (w.block.begin + w.block.used))) (wrap (size + 8)) (wrap (w.block.count + 1)) (wrap (size + 8)) 0
      w.stream.fill w.stream.put (pick c w.positions.fill (wrap (w.positions.fill + 8))) w.positions.put)
      (writer w.block.begin (wrap (w.block.used + size)) w.block.count size 0 w.stream.fill w.stream.put w.positions.fill w.positions.put))
  stays true c = record { fill = refl; put = refl; lists = refl; none_taken = refl }
  stays false c = record { fill = refl; put = refl; lists = refl; none_taken = refl }

  counts : (b c : Bool) → begins w size ≡ b → eqb w.block.count 0 ≡ c →
      (0 < (gave w size).block.count) × (504 * (gave w size).positions.put + (gave w size).positions.fill ≡ 8 * ((gave w size).block.count - 1))
  counts true c e f = rw (e, f) (numbers true c e f)
  counts false c e f = rw e (numbers false c e f)

  key_staged : key_at (stage_region m₃) 0 ≡ v.key
  unfolding version_at
  key_staged = ap (λ u. u.key) (staged_there m₂ long₂ (version v.key v.moment v.gone []) (bare_fits v fit))

  moment_staged : moment_at (stage_region m₃) 0 ≡ v.moment
  unfolding version_at
  moment_staged = ap (λ u. u.moment) (staged_there m₂ long₂ (version v.key v.moment v.gone []) (bare_fits v fit))

  pub gave_all : Gave n pages h j k m v rest (gave w size) m₃
  gave_all =
      let (some, listed) = counts (begins w size) (eqb w.block.count 0) refl refl in
      let st = stays (begins w size) (eqb w.block.count 0) in
      let one : suc ((gave w size).block.count - 1) ≡ (gave w size).block.count = omega (arith, some) in
      let full : 16 ≤ (gave w size).hand.len = subst (λ x. 16 ≤ x) (sym len_is) (brought_some (begins w size) (bound_after w.block.count m v.key) v fit) in
      record {
        long = staged_long m₂ long₂ (version v.key v.moment v.gone []);
        index_same = below_stage 64 16384 (omega arith);
        arena_same = below_stage 16448 131072 (omega arith);
        ring_same = below_hand 147682 2016 (omega arith) (omega arith);
        list_same = below_hand 149698 504 (omega arith) (omega arith);
        owes = subst (λ y. Owes (new_stream n pages h j) (new_entries n pages h j) (gave w size) y (octets (gave w size).hand.len (hand_of m₃)) (octets (gave w size).positions.fill (entries_of m₃)) (v ∷ []) rest)
            (sym (λ i. octets (st.fill i) (data_same i)))
            (subst (λ y. Owes (new_stream n pages h j) (new_entries n pages h j) (gave w size) (octets w.stream.fill (data_of m)) y (octets (gave w size).positions.fill (entries_of m₃)) (v ∷ []) rest) (sym hand_is)
            (subst (λ y. Owes (new_stream n pages h j) (new_entries n pages h j) (gave w size) (octets w.stream.fill (data_of m)) (brings w o.merges.given v) y (v ∷ []) rest) (sym list_is) gave_owes));
        staged_it = subst (λ c. Staged n pages h j m₃ c (v ∷ [])) one (last_given ((gave w size).block.count - 1) v key_staged moment_staged);
        listed = listed;
        hand_fits = subst (λ x. x ≤ 1302) (sym len_is) (brought_long (begins w size) _ v fit);
        hand_some = omega (arith, full, st.none_taken);
        small = small_gave (begins w size) (eqb w.block.count 0);
        fill_same = st.fill;
        puts_same = st.put;
        lists_same = st.lists;
      }

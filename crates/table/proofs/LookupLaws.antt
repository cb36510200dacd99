-- A lookup finds what is looked up in the table's versions.
use Rattle.std.proofs.Common.{◌≡◌, ℕ, zero, suc, ◌+◌, ◌*◌, ◌/◌, ◌%◌, ◌<◌, ◌≤◌, min, Bool, true, false, List, [], ◌∷◌, length, get_or, take, drop, sym, refl, ap, ◌∙◌, subst, ⊎_elim, arith, le-ltb, lt-ltb, eq-eqb, ne_eqb}
use Rattle.std.proofs.lemmas.List.{take-take, take_at, take_all, drop_at, drop-drop}
use Rattle.std.proofs.lemmas.Bool.{cases_lt}
use Rattle.value.specs.Versions.{pick, every, Version}
use Rattle.value.specs.Numbers.{number, part, number_at, bytes_of}
use Rattle.value.specs.Encoding.{in_limits}
use Rattle.value.specs.Sorted.{sort, in_order, lookup}
use Rattle.value.proofs.NumberLaws.{number_bytes_of, length_bytes_of}
use Rattle.value.proofs.SortLaws.{sort_every, sort_orders}
use Rattle.table.specs.Device.{Page, page_at}
use Rattle.table.specs.Blocks.{no_bound, ahead}
use Rattle.table.specs.Layout.{blocks, block_bytes, entry}
use Rattle.table.specs.Sizes.{joined, block_length}
use Rattle.table.specs.Stream.{payloads}
use Rattle.table.specs.Span.{spanned}
use Rattle.table.specs.Search.{ahead_first, ahead_at, Between, middle, narrowed}
use Rattle.table.specs.Reading.{head_limit, block_bound, head_key, found_in, Finds}
use Rattle.table.specs.Lies.{block_begin, before_block}
use Rattle.table.specs.Load.{placed}
use Rattle.table.specs.Lookup.{an_entry, entry_in, probed, begun, entry_of, There, ReadsRight, Looking, GoesOn, with_page, entered, loaded, is_ahead, narrowed_by, found_by, all_came, LookupRight}
use Rattle.table.specs.declared.search.Search.{Search}
use Rattle.table.specs.declared.lookup.Extent.{Extent}
use Rattle.table.specs.declared.lookup.Entry.{Entry}
use Rattle.table.specs.declared.lookup.Stage.{Stage}
use Rattle.table.specs.declared.lookup.Stage.TheVariants.{Entry as EntryStage, Head, Block}
use Rattle.table.specs.declared.lookup.Lookup.{Lookup}
use Rattle.table.proofs.SizeLaws.{blocks_hold}
use Rattle.table.proofs.StreamLaws.{span_take}
use Rattle.table.proofs.SearchLaws.{search_narrows, search_ends}
use Rattle.table.proofs.LoadLaws.{load_goes_on}
use Rattle.table.proofs.ReadingLaws.{head_reads, block_finds}
use Rattle.table.proofs.LieLaws.{entry_read, block_read}
use Rattle.table.proofs.BlockAtLaws.{BlockAt, block_at}

-- bytes that were wanted, of a row to which all their pages came
part_came : (ps : List Page) (row : List ℕ) (page skip len c : ℕ) → take (504 * c) row ≡ payloads ps page c → skip + len ≤ 504 * c → part skip len row ≡ take len (drop skip (payloads ps page c))
part_came ps row page skip len c e h = sym (span_take skip len (504 * c) row h) ∙ ap (λ y. take len (drop skip y)) e

-- an entry's two numbers
pub entry_parts : (row : List ℕ) (at b n : ℕ) → part at 8 row ≡ entry b n → (part at 4 row ≡ bytes_of 4 b) × (part (at + 4) 4 row ≡ bytes_of 4 n)
unfolding entry
entry_parts row at b n e = (
  sym (take-take 4 8 (drop at row) (omega arith)) ∙ ap (take 4) e ∙ take_at (bytes_of 4 b) (bytes_of 4 n) 4 (length_bytes_of 4 b),
  ap (take 4) (sym (drop-drop 4 at row)) ∙ sym (span_take 4 4 8 (drop at row) (omega arith)) ∙ ap (λ y. take 4 (drop 4 y)) e
      ∙ ap (take 4) (drop_at (bytes_of 4 b) (bytes_of 4 n) 4 (length_bytes_of 4 b)) ∙ take_all 4 (bytes_of 4 n) (omega (arith, length_bytes_of 4 n)),
)

entry_reads : (row : List ℕ) (at b n : ℕ) → part at 8 row ≡ entry b n → b < 4294967296 → n < 4294967296 → at < 504 → entry_in row at ≡ an_entry b n
entry_reads row at b n e hb hn h =
    let (first, second) = entry_parts row at b n e in
    let z : min (at + 4) 18446744073709551615 ≡ at + 4 = omega arith in
    λ j. an_entry ((ap number first ∙ number_bytes_of 4 b (omega arith)) j) ((ap (λ i. number_at 4 i row) z ∙ ap number second ∙ number_bytes_of 4 n (omega arith)) j)

-- the first bytes of a row that has n
take_short : (n m : ℕ) (xs : List ℕ) → length xs ≡ n → take (min n m) xs ≡ take m xs
take_short n m xs e = ⊎_elim (λ h. let z : min n m ≡ n = omega arith in ap (λ i. take i xs) z ∙ take_all n xs (omega arith) ∙ sym (take_all m xs (omega arith)))
    (λ h. let z : min n m ≡ m = omega arith in ap (λ i. take i xs) z) (cases_lt n m)

-- a table's versions, block by block
module _ (x : Extent) (ps : List Page) (vs : List Version) (k : List ℕ) (s : ℕ) (t : There x ps vs) (sm : s ≤ no_bound) where
  ordered : in_order (joined (blocks (sort vs))) ≡ true
  ordered = ap in_order (blocks_hold (sort vs)).0 ∙ sort_orders vs t.lies.rises

  fitting : every in_limits (sort vs) ≡ true
  fitting = sort_every in_limits vs ∙ t.lies.fits

  looked_up : lookup (joined (blocks (sort vs))) k s ≡ lookup (sort vs) k s
  looked_up = ap (λ l. lookup l k s) (blocks_hold (sort vs)).0

  pub probe_goes : (f : Search) (a : Entry) → Between k s (blocks (sort vs)) f.low f.high → ((m : ℕ) → f.low ≡ suc m → a ≡ entry_of vs m) → GoesOn x ps vs k s (probed x f a)
  unfolding GoesOn ReadsRight payloads
  probe_goes f a b kept = ⊎_elim look (λ h. over h f.low refl) (cases_lt f.low f.high)
    where
      look : f.low < f.high → GoesOn x ps vs k s (probed x f a)
      look h =
          let small : f.high < 4294967296 = omega (arith, b.within, t.lies.count, t.few) in
          let e : middle f.low f.high * 8 % 18446744073709551616 ≡ 8 * middle f.low f.high = omega arith in
          rw (lt-ltb f.low f.high h) (λ row. record { between = b; kept = kept; reads = (h, ap (λ at. spanned x.start at 8) e); came = refl })

      over : f.high ≤ f.low → (n : ℕ) → f.low ≡ n → GoesOn x ps vs k s (probed x f a)
      over h zero e =
          rw (le-ltb f.low f.high h, eq-eqb f.low 0 e)
          (sym looked_up ∙ (search_ends k s (blocks (sort vs)) f.high ordered (blocks_hold (sort vs)).1 sm
          (let q : f.low ≡ f.high = omega (arith, b.ordered) in subst (λ i. Between k s (blocks (sort vs)) i f.high) q b)).0 (omega (arith, b.ordered)))
      over h (suc m) e =
          let q : f.high ≡ suc m = omega (arith, b.ordered) in
          rw (le-ltb f.low f.high h, ne_eqb f.low 0 (λ z. omega arith))
          (λ row. record { between = b; kept = kept; reads = (m, e, q, ap (λ y. spanned x.data_at y.begin y.len) (kept m e)); came = refl })

  pub lookup_begins : GoesOn x ps vs k s (begun x)
  lookup_begins =
      probe_goes (record { low = 0; high = x.blocks }) (an_entry 0 0)
      record { ordered = omega arith; within = omega (arith, t.lies.count); before = λ i h. absurd (omega arith); behind = λ i h g. absurd (omega (arith, t.lies.count)) }
      (λ m e. absurd (omega arith))

  -- what is read lies on at most four pages, whose numbers are small
  module _ (l : Lookup) (row : List ℕ) (o : Looking x ps vs k s l row) where
    at_middle : l.search.low < l.search.high → BlockAt (sort vs) (middle l.search.low l.search.high)
    at_middle h = block_at (sort vs) (middle l.search.low l.search.high) fitting (omega (arith, o.between.within))

    few_pages : (g : Stage) → ReadsRight x vs l g → (l.load.span.pages ≤ 4) × (l.load.span.page < 9223372036854775808)
    unfolding ReadsRight
    few_pages EntryStage (h, e) =
        let small : l.search.high < 4294967296 = omega (arith, o.between.within, t.lies.count, t.few) in
        rw e (omega arith, omega (arith, t.start_small))
    few_pages Head (h, q, e) =
        let b = at_middle h in
        let small : l.entry.begin < 4294967296 = omega (arith, ap (λ y. y.begin) q, b.ends, t.short) in
        rw e (omega arith, omega (arith, t.data_small))
    few_pages Block (m, q, r, e) =
        let b = block_at (sort vs) m fitting (omega (arith, o.between.within)) in
        rw e (omega (arith, b.short), omega (arith, t.data_small, b.ends, t.short))

    same_reads : (g : Stage) → ReadsRight x vs l g → ReadsRight x vs (with_page l) g
    unfolding ReadsRight
    same_reads EntryStage r = r
    same_reads Head r = r
    same_reads Block r = r

    pub lookup_takes : l.load.got < l.load.span.pages → 2016 ≤ length row → Looking x ps vs k s (with_page l) (placed l.load.got (page_at ps (l.load.span.page + l.load.got)) row)
    lookup_takes h r =
        let (c, p) = few_pages l.stage o.reads in
        let e : (l.load.got + 1) % 18446744073709551616 ≡ l.load.got + 1 = omega arith in
        let row₁ = placed l.load.got (page_at ps (l.load.span.page + l.load.got)) row in
        record {
          between = o.between;
          kept = o.kept;
          reads = same_reads l.stage o.reads;
          came = subst (λ n. take (504 * n) row₁ ≡ payloads ps l.load.span.page n) (sym e) (load_goes_on l.load ps row (omega arith) r (omega arith) o.came);
        }

    -- the bytes of a block, as many as were wanted
    block_came : (i n : ℕ) → i < length (blocks (sort vs)) → n ≤ block_length (get_or (blocks (sort vs)) i []) → l.load.span ≡ spanned x.data_at (block_begin (blocks (sort vs)) i) n →
        l.load.got ≡ l.load.span.pages → loaded l row ≡ take n (block_bytes (before_block (blocks (sort vs)) i) (get_or (blocks (sort vs)) i []))
    block_came i n h g e a =
        let b = block_at (sort vs) i fitting h in
        let at : ℕ = block_begin (blocks (sort vs)) i in
        let c : ℕ = l.load.got in
        let page : l.load.span.page ≡ x.data_at + at / 504 = ap (λ y. y.page) e ∙ omega (arith, t.data_small, b.ends, t.short) in
        let room : at % 504 + n ≤ 504 * c = omega (arith, a, ap (λ y. y.pages) e, b.short) in
        ap (λ y. part y.skip y.len row) e
        ∙ part_came ps row (x.data_at + at / 504) (at % 504) n c (o.came ∙ ap (λ p. payloads ps p c) page) room
        ∙ block_read x.start x.data_at x.blocks ps vs i n c t.lies (omega (arith, t.lies.count)) g room

    entry_came : (h : l.search.low < l.search.high) → l.load.span ≡ spanned x.start (8 * middle l.search.low l.search.high) 8 → l.load.got ≡ l.load.span.pages →
        entry_in row l.load.span.skip ≡ entry_of vs (middle l.search.low l.search.high)
    entry_came h e a =
        let i : ℕ = middle l.search.low l.search.high in
        let b = at_middle h in
        let small : i < x.blocks = omega (arith, o.between.within, t.lies.count) in
        let one : l.load.got ≡ 1 = omega (arith, a, ap (λ y. y.pages) e) in
        let page : l.load.span.page ≡ x.start + 8 * i / 504 = ap (λ y. y.page) e ∙ omega (arith, t.start_small, t.few) in
        let skip : l.load.span.skip ≡ 8 * i % 504 = ap (λ y. y.skip) e in
        let row_is : take 504 row ≡ payloads ps (x.start + 8 * i / 504) 1 = subst (λ c. take (504 * c) row ≡ payloads ps l.load.span.page c) one o.came ∙ ap (λ p. payloads ps p 1) page in
        ap (entry_in row) skip
        ∙ entry_reads row (8 * i % 504) (block_begin (blocks (sort vs)) i) (block_length (get_or (blocks (sort vs)) i []))
        (part_came ps row (x.start + 8 * i / 504) (8 * i % 504) 8 1 row_is (omega arith) ∙ entry_read x.start x.data_at x.blocks ps vs i t.lies small)
        (omega (arith, b.ends, t.short)) (omega (arith, b.ends, t.short)) (omega arith)

    pub lookup_enters : (row₁ : List ℕ) → l.stage ≡ EntryStage → all_came l → Looking x ps vs k s (entered l x row) row₁
    unfolding ReadsRight payloads
    lookup_enters row₁ g a =
        let (h, e) = subst (ReadsRight x vs l) g o.reads in
        record { between = o.between; kept = o.kept; reads = (h, entry_came h e a, refl); came = refl }

    head_ahead : (h : l.search.low < l.search.high) → l.entry ≡ entry_of vs (middle l.search.low l.search.high) →
        l.load.span ≡ spanned x.data_at l.entry.begin (min l.entry.len head_limit) → all_came l → is_ahead l row k s ≡ ahead_at k s (blocks (sort vs)) (middle l.search.low l.search.high)
    unfolding ahead_at ahead_first
    head_ahead h q e a =
        let i : ℕ = middle l.search.low l.search.high in
        let b = at_middle h in
        let bytes = block_bytes (before_block (blocks (sort vs)) i) (get_or (blocks (sort vs)) i []) in
        let n : ℕ = block_length (get_or (blocks (sort vs)) i []) in
        let came : loaded l row ≡ take 278 (block_bytes (before_block (blocks (sort vs)) i) (b.head ∷ b.tail)) =
        block_came i (min n 278) (omega (arith, o.between.within)) (omega arith) (e ∙ ap (λ y. spanned x.data_at y.begin (min y.len 278)) q) a
        ∙ take_short n 278 bytes b.long ∙ ap (λ y. take 278 (block_bytes (before_block (blocks (sort vs)) i) y)) b.is in
        let (r, w) = head_reads (before_block (blocks (sort vs)) i) b.head b.tail 278 b.fits b.bound_small (omega arith) in
        (λ j. ahead k s (block_bound (came j)) (head_key (came j))) ∙ (λ j. ahead k s (r j) (w j)) ∙ sym (ap (ahead_first k s (before_block (blocks (sort vs)) i)) b.is)

    pub lookup_narrows : l.stage ≡ Head → all_came l → GoesOn x ps vs k s (narrowed_by l x row k s)
    unfolding ReadsRight
    lookup_narrows g a =
        let (h, q, e) = subst (ReadsRight x vs l) g o.reads in
        let (w, b) = search_narrows k s (blocks (sort vs)) l.search ordered (blocks_hold (sort vs)).1 sm h o.between in
        go h q (is_ahead l row k s) (subst (λ c. Between k s (blocks (sort vs)) (narrowed l.search c).low (narrowed l.search c).high) (sym (head_ahead h q e a)) b)
      where
        go : l.search.low < l.search.high → l.entry ≡ entry_of vs (middle l.search.low l.search.high) → (c : Bool) →
            Between k s (blocks (sort vs)) (narrowed l.search c).low (narrowed l.search c).high →
            GoesOn x ps vs k s (pick c (probed x (narrowed l.search true) l.entry) (probed x (narrowed l.search false) l.ahead))
        go h q true b = probe_goes (narrowed l.search true) l.entry b (λ m e. let z : m ≡ middle l.search.low l.search.high = omega arith in q ∙ ap (entry_of vs) (sym z))
        go h q false b = probe_goes (narrowed l.search false) l.ahead b o.kept

    pub lookup_finds : l.stage ≡ Block → all_came l → Finds (loaded l row) (lookup (sort vs) k s) (found_by l row k s)
    unfolding ReadsRight
    lookup_finds g a =
        let (m, lo, hi, e) = subst (ReadsRight x vs l) g o.reads in
        let h : m < length (blocks (sort vs)) = omega (arith, o.between.within) in
        let b = block_at (sort vs) m fitting h in
        let p = before_block (blocks (sort vs)) m in
        let n : ℕ = block_length (get_or (blocks (sort vs)) m []) in
        let came : loaded l row ≡ block_bytes p (b.head ∷ b.tail) =
        block_came m n h (omega arith) e a ∙ take_all n (block_bytes p (get_or (blocks (sort vs)) m [])) (omega (arith, b.long)) ∙ ap (block_bytes p) b.is in
        let ends : lookup (sort vs) k s ≡ lookup (b.head ∷ b.tail) k s =
        sym looked_up ∙ (search_ends k s (blocks (sort vs)) (suc m) ordered (blocks_hold (sort vs)).1 sm
        (subst (λ i. Between k s (blocks (sort vs)) i (suc m)) lo (subst (λ i. Between k s (blocks (sort vs)) l.search.low i) hi o.between))).1 m refl ∙ ap (λ y. lookup y k s) b.is in
        subst (λ y. Finds y (lookup (sort vs) k s) (found_in y k s)) (sym came)
        (subst (λ y. Finds (block_bytes p (b.head ∷ b.tail)) y (found_in (block_bytes p (b.head ∷ b.tail)) k s)) (sym ends)
        (block_finds p b.head b.tail k s b.fits (omega (arith, ap block_length b.is, b.short))))

pub lookup_right : LookupRight
lookup_right = record {
  begins = lookup_begins;
  takes = λ x ps vs k s l row t sm o. lookup_takes x ps vs k s t sm l row o;
  enters = λ x ps vs k s l row row₁ t sm o. lookup_enters x ps vs k s t sm l row o row₁;
  narrows = λ x ps vs k s l row t sm o. lookup_narrows x ps vs k s t sm l row o;
  finds = λ x ps vs k s l row t sm o. lookup_finds x ps vs k s t sm l row o;
}

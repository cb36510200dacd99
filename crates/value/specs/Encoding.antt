-- A version in bytes: key length (1 byte), moment (8), kind and value length (2), four bytes that are 0 (kept for the order of arrival), key, value.
-- Numbers have the lowest byte first; the value length is the low eleven bits of its two bytes, the kind the upper five: 0 a value, 1 gone.
--   in_limits v         a key of 1 to 255 bytes, a moment below 2^63, a value of up to 1,024 bytes, none where it is gone
--   fits v              in limits, and made of bytes
--   encoding v          its bytes
--   encoded_length v    how many they are
--   written v out       `out` with the encoding at its front, where there is room and the version is in limits; else `out`
--   stands bs           whether bytes begin with a version
--   parsed row at       the place of the version at `at` of a row, if one stands there
--   version_at row p    the version that lies at a place
--   encode_all vs       the encodings of versions, one behind another
--   versions_in bs      the versions that bytes begin with, up to where none stands
use Rattle.std.specs.Prelude.{◌≡◌, ℕ, zero, suc, ◌+◌, ◌*◌, ◌/◌, ◌%◌, ◌^◌, ◌<◌, ◌≤◌, Bool, true, not, ◌&&◌, List, [], ◌∷◌, ◌++◌, length, drop, replicate, Some, None, Option, ◌==◌, nat_le, nat_lt, slice_index}
use Rattle.value.specs.Versions.{pick, or, every, Version, version, weight}
use Rattle.value.specs.Numbers.{bytes_of, part, number_at, all_bytes}
use Rattle.value.specs.declared.version.Place.{Place}

-- LIMITS, by a key's length, a moment, whether it is gone, a value's length
unfoldable pub limits : ℕ → ℕ → Bool → ℕ → Bool
limits k m g n = nat_lt 0 k && (nat_lt k 256 && (nat_lt m (2 ^ 63) && (nat_le n 1024 && or (not g) (n == 0))))

abbrev pub in_limits : Version → Bool
in_limits v = limits (length v.key) v.moment v.gone (length v.value)

abbrev pub fits : Version → Bool
fits v = in_limits v && (all_bytes v.key && all_bytes v.value)

-- ENCODING
abbrev pub mark : Bool → ℕ → ℕ
mark g n = pick g 2048 0 + n

unfoldable pub head : ℕ → ℕ → Bool → ℕ → List ℕ
head k m g n = k ∷ (bytes_of 8 m ++ (bytes_of 2 (mark g n) ++ (0 ∷ 0 ∷ 0 ∷ 0 ∷ [])))

unfoldable pub encoding : Version → List ℕ
encoding v = head (length v.key) v.moment v.gone (length v.value) ++ (v.key ++ v.value)

abbrev pub encoded_length : Version → ℕ
encoded_length v = 15 + length v.key + length v.value

unfoldable pub has_room : Version → List ℕ → Bool
has_room v out = in_limits v && nat_le (encoded_length v) (length out)

abbrev pub written_length : Version → List ℕ → Option ℕ
written_length v out = pick (has_room v out) (Some (encoded_length v)) None

abbrev pub written : Version → List ℕ → List ℕ
written v out = pick (has_room v out) (encoding v ++ drop (encoded_length v) out) out

-- PARSING: what the first fifteen bytes say
abbrev pub key_length : List ℕ → ℕ
key_length bs = slice_index bs 0

abbrev pub moment_in : List ℕ → ℕ
moment_in bs = number_at 8 1 bs

abbrev pub mark_in : List ℕ → ℕ
mark_in bs = number_at 2 9 bs

abbrev pub kind_in : List ℕ → ℕ
kind_in bs = mark_in bs / 2048

abbrev pub gone_in : List ℕ → Bool
gone_in bs = kind_in bs == 1

abbrev pub value_length : List ℕ → ℕ
value_length bs = mark_in bs % 2048

abbrev pub arrival_in : List ℕ → ℕ
arrival_in bs = number_at 4 11 bs

abbrev pub size_in : List ℕ → ℕ
size_in bs = 15 + key_length bs + value_length bs

unfoldable pub stands : List ℕ → Bool
stands bs =
    nat_le 15 (length bs)
    && (nat_lt (kind_in bs) 2
    && (arrival_in bs == 0
    && (limits (key_length bs) (moment_in bs) (gone_in bs) (value_length bs)
    && nat_le (size_in bs) (length bs))))

abbrev pub version_in : List ℕ → Version
version_in bs = version (part 15 (key_length bs) bs) (moment_in bs) (gone_in bs) (part (15 + key_length bs) (value_length bs) bs)

-- PLACES in a row: `bs` are its bytes from `at` on
abbrev pub place_in : List ℕ → ℕ → Place
place_in bs at = record {
  key_at = at + 15;
  key_len = key_length bs;
  value_at = at + 15 + key_length bs;
  value_len = value_length bs;
  moment = moment_in bs;
  gone = gone_in bs;
}

unfoldable pub parsed : List ℕ → ℕ → Option Place
parsed row at = pick (stands (drop at row)) (Some (place_in (drop at row) at)) None

abbrev pub key_at : List ℕ → Place → List ℕ
key_at row p = part p.key_at p.key_len row

abbrev pub value_at : List ℕ → Place → List ℕ
value_at row p = part p.value_at p.value_len row

abbrev pub version_at : List ℕ → Place → Version
version_at row p = version (key_at row p) p.moment p.gone (value_at row p)

abbrev pub end_of : Place → ℕ
end_of p = p.value_at + p.value_len

-- the place of a version whose encoding begins at `at`
abbrev pub place_of : ℕ → Version → Place
place_of at v = record {
  key_at = at + 15;
  key_len = length v.key;
  value_at = at + 15 + length v.key;
  value_len = length v.value;
  moment = v.moment;
  gone = v.gone;
}

-- what holds of every place that is found
pub record Lies (row : List ℕ) (at : ℕ) (p : Place) : Type 0 where
  pub key_follows : p.key_at ≡ at + 15
  pub value_follows : p.value_at ≡ p.key_at + p.key_len
  pub within : p.value_at + p.value_len ≤ length row
  pub key_some : 0 < p.key_len
  pub key_short : p.key_len < 256
  pub value_short : p.value_len ≤ 1024
  pub early : p.moment < 2 ^ 63

-- LISTS
unfoldable pub encode_all : List Version → List ℕ
encode_all [] = []
encode_all (v ∷ vs) = encoding v ++ encode_all vs

-- at most n versions
unfoldable pub parse_all : ℕ → List ℕ → List Version
parse_all zero bs = []
parse_all (suc n) bs = pick (stands bs) (version_in bs ∷ parse_all n (drop (size_in bs) bs)) []

unfoldable pub versions_in : List ℕ → List Version
versions_in bs = parse_all (length bs) bs

-- THE STATEMENTS. What was encoded is parsed, whatever stands before and behind it; and there it lies.
abbrev pub ParseReadsEncode : Type 0
ParseReadsEncode =
    (xs : List ℕ) (v : Version) (ys : List ℕ) → in_limits v ≡ true →
    (parsed (xs ++ (encoding v ++ ys)) (length xs) ≡ Some (place_of (length xs) v))
    × (version_at (xs ++ (encoding v ++ ys)) (place_of (length xs) v) ≡ v)

-- An encoding is fifteen bytes and the key's and the value's: 49 less than the version weighs. Its numbers are bytes if the version's are.
pub record EncodingSound : Type 0 where
  pub long : (v : Version) → length (encoding v) ≡ encoded_length v
  pub weighs : (vs : List Version) → length (encode_all vs) + 49 * length vs ≡ weight vs
  pub bytes : (vs : List Version) → every fits vs ≡ true → all_bytes (encode_all vs) ≡ true

-- Lists of versions read back, with zeros behind them or other bytes.
abbrev pub ListsReadBack : Type 0
ListsReadBack =
    (vs : List Version) → every in_limits vs ≡ true →
    ((z : ℕ) → versions_in (encode_all vs ++ replicate z 0) ≡ vs) × ((bs : List ℕ) → versions_in (encode_all vs ++ bs) ≡ vs ++ versions_in bs)

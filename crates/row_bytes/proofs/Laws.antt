-- What was read is spelled so, and what is spelled so is read.
use Rattle.std.proofs.Common.{◌≡◌, ℕ, zero, suc, ◌^◌, ◌<◌, ◌≤◌, ◌%◌, Bool, ltb, leb, take, ◌-◌, List, [], ◌∷◌, ◌++◌, length, None, Ok, Result, refl}
use Rattle.std.proofs.Common.{sym, ap, subst, ◌∙◌, append_assoc, arith}
use Rattle.std.specs.Int.{w8, w16, w32, w64, to_be_bytes}
use Rattle.std.specs.List.{flat_map}
use Rattle.std.proofs.lemmas.Bool.{ltb-true, ltb-false, lt-ltb, leb-true, le-leb, le-ltb, eq-eqb, eqb-true}
use Rattle.std.proofs.lemmas.List.{append-nil, length-append, take_at}
use Rattle.vclock.specs.Clock.{IsClock, Rises}
use Rattle.vclock.specs.declared.format.Format.{Format}
use Rattle.vclock.specs.declared.format.Format.TheVariants.{One, Two}
use Rattle.version_set.specs.Kind.{kind_byte, value_fault}
use Rattle.version_set.specs.declared.kind.Kind.{Kind}
use Rattle.version_set.specs.declared.kind.Kind.TheVariants.{Live, Tombstone}
use Rattle.version_set.specs.declared.version.Version.{Version}
use Rattle.version_set.specs.Version.{pair_text, plain_text, version_text}
use Rattle.row_bytes.specs.Rows.{IsVersion}
use Rattle.row_bytes.specs.Reading.{◌>>=◌, field_at, bytes_at, pair_at, pairs_at, kind_of, kind_at, longest_value, version_at}
use Rattle.vclock.proofs.ByteLaws.{IsBytes}
use Rattle.row_bytes.proofs.FieldLaws.{bind_ok, ok_is, Takes, Takes-none, Takes-then, wide8, wide16, wide32, wide64, field_takes, field_again}
use Rattle.row_bytes.proofs.FieldLaws.{bytes_takes, bytes_again}
use Rattle.row_bytes.proofs.LimitLaws.{no_fault, no_fault_else}

-- a pair that may stand above a node
pub record IsPair (above : ℕ) (p : ℕ × ℕ) : Type 0 where
  pub climbs : above < p.0
  pub node : p.0 < 2 ^ 16
  pub some : 0 < p.1
  pub counter : p.1 < 2 ^ 64

-- a pair that was read is spelled so
pair_takes : (above : ℕ) (bytes : List ℕ) (x : (ℕ × ℕ) × List ℕ) → IsBytes bytes → pair_at above bytes ≡ Ok x
    → Takes bytes (pair_text x.0) x.1 × IsPair above x.0
unfolding pair_at
pair_takes above bytes x fits e =
    let a = bind_ok (field_at w16 (ltb above) bytes) (λ node. field_at w64 (ltb 0) node.1 >>= λ counter. Ok ((node.0, counter.0), counter.1)) x e in
    let b = bind_ok (field_at w64 (ltb 0) a.0.1) (λ counter. Ok ((a.0.0, counter.0), counter.1)) x a.2 in
    let f = field_takes w16 (2 ^ 16) wide16 (ltb above) bytes a.0 fits a.1 in
    let g = field_takes w64 (2 ^ 64) wide64 (ltb 0) a.0.1 b.0 f.takes.rest_fits b.1 in
    let made : (ℕ × ℕ) × List ℕ = ((a.0.0, b.0.0), b.0.1) in
    subst (λ (y : (ℕ × ℕ) × List ℕ). Takes bytes (pair_text y.0) y.1 × IsPair above y.0) (ok_is made x b.2) (
      Takes-then bytes (to_be_bytes w16 a.0.0) a.0.1 (to_be_bytes w64 b.0.0) b.0.1 f.takes g.takes,
      record { climbs = ltb-true _ _ f.passed; node = f.below; some = ltb-true _ _ g.passed; counter = g.below },
    )

-- a pair that is spelled so is read
pair_again : (above : ℕ) (p : ℕ × ℕ) (rest : List ℕ) → IsPair above p → pair_at above (pair_text p ++ rest) ≡ Ok (p, rest)
unfolding pair_at
pair_again above p rest h =
    ap (pair_at above) (append_assoc (to_be_bytes w16 p.0) (to_be_bytes w64 p.1) rest)
    ∙ rw (
      field_again w16 (2 ^ 16) wide16 (ltb above) p.0 (to_be_bytes w64 p.1 ++ rest) h.node (lt-ltb _ _ h.climbs),
      field_again w64 (2 ^ 64) wide64 (ltb 0) p.1 rest h.counter (lt-ltb _ _ h.some),
    ) refl

-- what a loop over pairs read after those before
pub record ReadPairs (k above : ℕ) (before : List (ℕ × ℕ)) (bytes : List ℕ) (all : List (ℕ × ℕ)) (rest : List ℕ) : Type 0 where
  pub new : List (ℕ × ℕ)
  pub all_is : all ≡ before ++ new
  pub count : length new ≡ k
  pub takes : Takes bytes (flat_map pair_text new) rest
  pub rising : Rises above new

-- pairs that were read are spelled so
pairs_takes : (k above : ℕ) (before : List (ℕ × ℕ)) (bytes : List ℕ) (x : List (ℕ × ℕ) × List ℕ) → IsBytes bytes
    → pairs_at k above before bytes ≡ Ok x → ReadPairs k above before bytes x.0 x.1
unfolding pairs_at
pairs_takes zero above before bytes x fits e =
    subst (λ (y : List (ℕ × ℕ) × List ℕ). ReadPairs zero above before bytes y.0 y.1) (ok_is (before, bytes) x e)
    (record { new = []; all_is = sym (append-nil before); count = refl; takes = Takes-none bytes fits; rising = tt })
pairs_takes (suc k) above before bytes x fits e =
    let a = bind_ok (pair_at above bytes) (λ pair. pairs_at k pair.0.0 (before ++ pair.0 ∷ []) pair.1) x e in
    let p = pair_takes above bytes a.0 fits a.1 in
    let h = pairs_takes k a.0.0.0 (before ++ a.0.0 ∷ []) a.0.1 x p.0.rest_fits a.2 in
    record {
      new = a.0.0 ∷ h.new;
      all_is = h.all_is ∙ append_assoc before (a.0.0 ∷ []) h.new;
      count = omega (arith, h.count);
      takes = Takes-then bytes (pair_text a.0.0) a.0.1 (flat_map pair_text h.new) x.1 p.0 h.takes;
      rising = (p.1.climbs, p.1.node, p.1.some, p.1.counter, h.rising);
    }

-- pairs that are spelled so are read
pairs_again : (above : ℕ) (before new : List (ℕ × ℕ)) (rest : List ℕ) → Rises above new
    → pairs_at (length new) above before (flat_map pair_text new ++ rest) ≡ Ok (before ++ new, rest)
unfolding pairs_at
pairs_again above before [] rest h = ap (λ (ps : List (ℕ × ℕ)). Ok (ps, rest)) (sym (append-nil before))
pairs_again above before (p ∷ ps) rest h =
    let is : IsPair above p = record { climbs = h.0; node = h.1; some = h.2; counter = h.3 } in
    let first : pair_at above ((pair_text p ++ flat_map pair_text ps) ++ rest) ≡ Ok (p, flat_map pair_text ps ++ rest) =
    ap (pair_at above) (append_assoc (pair_text p) (flat_map pair_text ps) rest) ∙ pair_again above p (flat_map pair_text ps ++ rest) is in
    rw first (pairs_again p.0 (before ++ p ∷ []) ps rest h.4 ∙ ap (λ (ps : List (ℕ × ℕ)). Ok (ps, rest)) (append_assoc before (p ∷ []) ps))

-- ---- kinds

-- the text of a kind: format 1 has none
abbrev kind_text : Format → Kind → List ℕ
kind_text One kind = []
kind_text Two kind = kind_byte kind ∷ []

-- a kind of the format
abbrev HasKind : Format → Kind → Type 0
HasKind One kind = kind ≡ Live
HasKind Two kind = Unit {0}

-- a byte that passed as a kind is that kind's byte
kind_back : (n : ℕ) → n ≤ 1 → kind_byte (kind_of n) ≡ n
kind_back zero h = refl
kind_back (suc zero) h = refl
kind_back (suc (suc n)) h = absurd (omega arith)

-- a kind that was read is spelled so
kind_takes : (format : Format) (bytes : List ℕ) (x : Kind × List ℕ) → IsBytes bytes → kind_at format bytes ≡ Ok x
    → Takes bytes (kind_text format x.0) x.1 × HasKind format x.0
unfolding kind_at
kind_takes One bytes x fits e =
    subst (λ (y : Kind × List ℕ). Takes bytes [] y.1 × (y.0 ≡ Live)) (ok_is (Live, bytes) x e) (Takes-none bytes fits, refl)
kind_takes Two bytes x fits e =
    let a = bind_ok (field_at w8 (λ n. leb n 1) bytes) (λ byte. Ok (kind_of byte.0, byte.1)) x e in
    let f = field_takes w8 (2 ^ 8) wide8 (λ n. leb n 1) bytes a.0 fits a.1 in
    let low : a.0.0 ≤ 1 = leb-true _ _ f.passed in
    let same : to_be_bytes w8 a.0.0 ≡ kind_byte (kind_of a.0.0) ∷ [] = ap (λ (n : ℕ). n ∷ []) (byte_is a.0.0 low ∙ sym (kind_back a.0.0 low)) in
    subst (λ (y : Kind × List ℕ). Takes bytes (kind_byte y.0 ∷ []) y.1 × Unit {0}) (ok_is (kind_of a.0.0, a.0.1) x a.2)
    (subst (λ (t : List ℕ). Takes bytes t a.0.1) same f.takes, tt)
  where
    byte_is : (n : ℕ) → n ≤ 1 → n % 256 ≡ n
    byte_is n h = omega arith

-- a kind that is spelled so is read
kind_again : (format : Format) (kind : Kind) (rest : List ℕ) → HasKind format kind → kind_at format (kind_text format kind ++ rest) ≡ Ok (kind, rest)
unfolding kind_at
kind_again One kind rest h = ap (λ (k : Kind). Ok (k, rest)) (sym h)
kind_again Two Live rest h = rw (field_again w8 (2 ^ 8) wide8 (λ n. leb n 1) 0 rest (omega arith) refl) refl
kind_again Two Tombstone rest h = rw (field_again w8 (2 ^ 8) wide8 (λ n. leb n 1) 1 rest (omega arith) refl) refl

-- ---- versions

-- all of a version but its kind
abbrev plain_at : Format → Kind → List ℕ → Result (Version × List ℕ) ℕ
plain_at format kind bytes =
    field_at w8 (λ n. leb n 32) bytes >>= λ count. pairs_at count.0 0 [] count.1 >>= λ pairs. field_at w32
    (λ n. leb n (longest_value format kind)) pairs.1 >>= λ len. bytes_at len.0 len.1 >>= λ value. Ok
    (record { clock = pairs.0; kind = kind; value = value.0 }, value.1)

-- pairs that were read are a clock
clock_read : (count : ℕ) (bytes : List ℕ) (x : List (ℕ × ℕ) × List ℕ) → IsBytes bytes → count ≤ 32 → pairs_at count 0 [] bytes ≡ Ok x → IsClock x.0
clock_read count bytes x fits few e =
    let pairs = pairs_takes count 0 [] bytes x fits e in
    let same : pairs.new ≡ x.0 = sym pairs.all_is in
    record {
      rising = subst (λ (ps : List (ℕ × ℕ)). Rises 0 ps) same pairs.rising;
      short = subst (λ (ps : List (ℕ × ℕ)). length ps ≤ 32) same (omega (arith, pairs.count));
    }

-- the pairs of a version that is read are a clock
pub clock_in : (format : Format) (bytes : List ℕ) (kind : Kind × List ℕ) (count : ℕ × List ℕ) (pairs : List (ℕ × ℕ) × List ℕ) → IsBytes bytes
    → kind_at format bytes ≡ Ok kind → field_at w8 (λ n. leb n 32) kind.1 ≡ Ok count → pairs_at count.0 0 [] count.1 ≡ Ok pairs → IsClock pairs.0
clock_in format bytes kind count pairs fits k n e =
    let front = kind_takes format bytes kind fits k in
    let field = field_takes w8 (2 ^ 8) wide8 (λ n. leb n 32) kind.1 count front.0.rest_fits n in
    clock_read count.0 count.1 pairs field.takes.rest_fits (leb-true count.0 32 field.passed) e

-- what was read of a version but its kind
record IsPlain (format : Format) (of : Kind) (v : Version) : Type 0 where
  pub clock : IsClock v.clock
  pub kind_is : v.kind ≡ of
  pub short : length v.value ≤ longest_value format of

-- each length of a value fits four bytes
longest_fits : (format : Format) (kind : Kind) → longest_value format kind ≤ 65536
longest_fits One Live = omega arith
longest_fits Two Live = omega arith
longest_fits One Tombstone = omega arith
longest_fits Two Tombstone = omega arith

-- all of a version but its kind, read, is spelled so
plain_takes : (format : Format) (kind : Kind) (bytes : List ℕ) (x : Version × List ℕ) → IsBytes bytes → plain_at format kind bytes ≡ Ok x
    → Takes bytes (plain_text x.0) x.1 × IsPlain format kind x.0
plain_takes format kind bytes x fits e =
    let good : ℕ → Bool = λ n. leb n (longest_value format kind) in
    let a = bind_ok (field_at w8 (λ n. leb n 32) bytes)
    (λ count. pairs_at count.0 0 [] count.1 >>= λ pairs. field_at w32 good pairs.1 >>= λ len. bytes_at len.0 len.1 >>= λ value. Ok
    (record { clock = pairs.0; kind = kind; value = value.0 }, value.1)) x e in
    let b = bind_ok (pairs_at a.0.0 0 [] a.0.1)
    (λ pairs. field_at w32 good pairs.1 >>= λ len. bytes_at len.0 len.1 >>= λ value. Ok
    (record { clock = pairs.0; kind = kind; value = value.0 }, value.1)) x a.2 in
    let c = bind_ok (field_at w32 good b.0.1)
    (λ len. bytes_at len.0 len.1 >>= λ value. Ok (record { clock = b.0.0; kind = kind; value = value.0 }, value.1)) x b.2 in
    let d = bind_ok (bytes_at c.0.0 c.0.1) (λ value. Ok (record { clock = b.0.0; kind = kind; value = value.0 }, value.1)) x c.2 in
    let count = field_takes w8 (2 ^ 8) wide8 (λ n. leb n 32) bytes a.0 fits a.1 in
    let few = leb-true a.0.0 32 count.passed in
    let pairs = pairs_takes a.0.0 0 [] a.0.1 b.0 count.takes.rest_fits b.1 in
    let len = field_takes w32 (2 ^ 32) wide32 good b.0.1 c.0 pairs.takes.rest_fits c.1 in
    let value = bytes_takes c.0.0 c.0.1 d.0 len.takes.rest_fits d.1 in
    let same : pairs.new ≡ b.0.0 = sym pairs.all_is in
    let many : length b.0.0 ≡ a.0.0 = subst (λ (ps : List (ℕ × ℕ)). length ps ≡ a.0.0) same pairs.count in
    let middle : Takes a.0.1 (flat_map pair_text b.0.0) b.0.1 = subst
    (λ (ps : List (ℕ × ℕ)). Takes a.0.1 (flat_map pair_text ps) b.0.1) same pairs.takes in
    let byte : a.0.0 % 256 ≡ length b.0.0 = omega (arith, many, few) in
    let first : Takes bytes (length b.0.0 ∷ []) a.0.1 = subst (λ (n : ℕ). Takes bytes (n ∷ []) a.0.1) byte count.takes in
    let length_field : Takes b.0.1 (to_be_bytes w32 (length d.0.0)) c.0.1 = subst (λ (n : ℕ). Takes b.0.1 (to_be_bytes w32 n) c.0.1)
    (sym value.1) len.takes in
    let last = Takes-then b.0.1 (to_be_bytes w32 (length d.0.0)) c.0.1 d.0.0 d.0.1 length_field value.0 in
    let behind = Takes-then a.0.1 (flat_map pair_text b.0.0) b.0.1 (to_be_bytes w32 (length d.0.0) ++ d.0.0) d.0.1 middle last in
    let whole = Takes-then bytes (length b.0.0 ∷ []) a.0.1
    (flat_map pair_text b.0.0 ++ (to_be_bytes w32 (length d.0.0) ++ d.0.0)) d.0.1 first behind in
    let short = leb-true c.0.0 (longest_value format kind) len.passed in
    let made : Version × List ℕ = (record { clock = b.0.0; kind = kind; value = d.0.0 }, d.0.1) in
    subst (λ (y : Version × List ℕ). Takes bytes (plain_text y.0) y.1 × IsPlain format kind y.0) (ok_is made x d.2)
    (whole, record { clock = clock_read a.0.0 a.0.1 b.0 count.takes.rest_fits few b.1; kind_is = refl; short = rw value.1 short })

-- a version within the limits has no fault
no_value_fault : (format : Format) (kind : Kind) (value : List ℕ) → HasKind format kind → length value ≤ longest_value format kind
    → value_fault format kind value ≡ None
no_value_fault One Live value has short = rw (le-ltb _ _ short) refl
no_value_fault Two Live value has short = rw (le-ltb _ _ short) refl
no_value_fault One Tombstone value has short = absurd cc
no_value_fault Two Tombstone value has short = rw (eq-eqb (length value) 0 (omega arith)) refl

-- what a value with no fault is within
record HasLimits (format : Format) (kind : Kind) (value : List ℕ) : Type 0 where
  pub has : HasKind format kind
  pub short : length value ≤ longest_value format kind

-- a value with no fault is within the limits
limits : (format : Format) (kind : Kind) (value : List ℕ) → value_fault format kind value ≡ None → HasLimits format kind value
limits One Live value h = record { has = refl; short = ltb-false _ _ (no_fault _ _ h) }
limits Two Live value h = record { has = tt; short = ltb-false _ _ (no_fault _ _ h) }
limits One Tombstone value h = absurd cc
limits Two Tombstone value h = let n = eqb-true _ _ (no_fault_else _ _ h) in record { has = tt; short = omega (arith, n) }

-- the kind's text, then the rest of the version's
version_text-is : (format : Format) (v : Version) → version_text format v ≡ kind_text format v.kind ++ plain_text v
version_text-is One v = refl
version_text-is Two v = refl

-- a version that was read is spelled so
pub version_takes : (format : Format) (bytes : List ℕ) (x : Version × List ℕ) → IsBytes bytes → version_at format bytes ≡ Ok x
    → Takes bytes (version_text format x.0) x.1 × IsVersion format x.0
unfolding version_at
version_takes format bytes x fits e =
    let a = bind_ok (kind_at format bytes) (λ kind. plain_at format kind.0 kind.1) x e in
    let kind = kind_takes format bytes a.0 fits a.1 in
    let plain = plain_takes format a.0.0 a.0.1 x kind.0.rest_fits a.2 in
    let front : Takes bytes (kind_text format x.0.kind) a.0.1 = subst (λ (k : Kind). Takes bytes (kind_text format k) a.0.1)
    (sym plain.1.kind_is) kind.0 in (
      subst (λ (t : List ℕ). Takes bytes t x.1) (sym (version_text-is format x.0))
          (Takes-then bytes (kind_text format x.0.kind) a.0.1 (plain_text x.0) x.1 front plain.0),
      record {
        clock = plain.1.clock;
        value = subst (λ (k : Kind). value_fault format k x.0.value ≡ None) (sym plain.1.kind_is)
            (no_value_fault format a.0.0 x.0.value kind.1 plain.1.short);
      },
    )

-- all of a version but its kind, spelled so, is read
plain_again : (format : Format) (v : Version) (rest : List ℕ) → IsClock v.clock → length v.value ≤ longest_value format v.kind
    → plain_at format v.kind (plain_text v ++ rest) ≡ Ok (v, rest)
plain_again format v rest clock short =
    let good : ℕ → Bool = λ n. leb n (longest_value format v.kind) in
    let tail = flat_map pair_text v.clock ++ (to_be_bytes w32 (length v.value) ++ (v.value ++ rest)) in
    let byte : length v.clock ≡ length v.clock % 256 = omega (arith, clock.short) in
    let regrouped : plain_text v ++ rest ≡ to_be_bytes w8 (length v.clock) ++ tail = ap
    (λ (n : ℕ). n ∷ ((flat_map pair_text v.clock ++ (to_be_bytes w32 (length v.value) ++ v.value)) ++ rest)) byte
    ∙ ap (λ (t : List ℕ). (length v.clock % 256) ∷ t)
    (append_assoc (flat_map pair_text v.clock) (to_be_bytes w32 (length v.value) ++ v.value) rest) in
    let count = field_again w8 (2 ^ 8) wide8 (λ n. leb n 32) (length v.clock) tail (omega (arith, clock.short)) (le-leb _ _ clock.short) in
    let pairs = pairs_again 0 [] v.clock (to_be_bytes w32 (length v.value) ++ (v.value ++ rest)) clock.rising in
    let len = field_again w32 (2 ^ 32) wide32 good (length v.value) (v.value ++ rest) (omega (arith, short, longest_fits format v.kind))
    (le-leb _ _ short) in
    ap (plain_at format v.kind) regrouped ∙ rw (count, pairs, len, bytes_again v.value rest) refl

-- a version that is spelled so is read
pub version_again : (format : Format) (v : Version) (rest : List ℕ) → IsVersion format v
    → version_at format (version_text format v ++ rest) ≡ Ok (v, rest)
unfolding version_at
version_again format v rest h =
    let l = limits format v.kind v.value h.value in
    let regrouped : version_text format v ++ rest ≡ kind_text format v.kind ++ (plain_text v ++ rest) = ap (λ (t : List ℕ). t ++ rest)
    (version_text-is format v) ∙ append_assoc (kind_text format v.kind) (plain_text v) rest in
    ap (version_at format) regrouped ∙ rw (kind_again format v.kind (plain_text v ++ rest) l.has) (plain_again format v rest h.clock l.short)

-- the front of bytes that end with the rest
pub front_is : (bytes text rest : List ℕ) → bytes ≡ text ++ rest → take (length bytes - length rest) bytes ≡ text
front_is bytes text rest e =
    let n : length bytes - length rest ≡ length text = omega (arith, ap length e, length-append text rest) in
    rw (n, e) (take_at text rest (length text) refl)

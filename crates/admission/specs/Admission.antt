-- Background work admitted by the latency of the foreground: section 6.5 of the Dynamo paper.
use Rattle.std.specs.Prelude.{ℕ, ◌+◌, ◌-◌, ◌*◌, ◌/◌, ◌≤◌, List, [], ◌∷◌, ◌++◌, length, map, filter, count_by, max, min, nat_le, nat_lt, Contains, Option, Some, None, if◌then◌else◌}
use Rattle.circular_buffer.specs.Buffer.{keep_last}
use Rattle.vclock.specs.Outcome.{Outcome, gives, refuses}
use Rattle.vclock.specs.declared.refusal.Refusal.TheVariants.{NoSlot, ClockBack}
use Rattle.admission.specs.declared.latency.Sample.{Sample}

-- a controller
pub record Admission : Type 0 where
  -- the bounds of the target, and the latency in microseconds over which the target falls
  pub floor : ℕ
  pub ceiling : ℕ
  pub threshold : ℕ
  -- the maximum number of slots lent
  pub target : ℕ
  -- the number of slots lent: the number of the ledger whose shares they are
  pub slots : ℕ
  -- the last 1,024 samples, each a moment and a latency, the oldest first
  pub samples : List (ℕ × ℕ)
  -- the greatest moment accepted
  pub latest : ℕ

-- the facts of each controller
pub record IsAdmission (a : Admission) : Type 0 where
  pub floor : 1 ≤ a.floor
  pub low : a.floor ≤ a.target
  pub high : a.target ≤ a.ceiling
  pub ceiling : a.ceiling ≤ 1024
  pub slots : a.slots ≤ a.ceiling
  pub samples : length a.samples ≤ 1024

abbrev pub fresh_admission : ℕ → ℕ → ℕ → Admission
fresh_admission floor ceiling threshold =
    record { floor = floor; ceiling = ceiling; threshold = threshold; target = ceiling; slots = 0; samples = []; latest = 0 }

-- the number of slots that could be lent
abbrev pub free_of : Admission → ℕ
free_of a = a.target - a.slots

-- the number of slots that are lent or could be
abbrev pub allowance_of : Admission → ℕ
allowance_of a = max a.target a.slots

-- one more slot, within the target
abbrev pub lend : Admission → Outcome (Unit {0}) Admission
lend a = if nat_lt a.slots a.target then gives tt (record a { slots = a.slots + 1 }) else refuses NoSlot

-- one slot less, if one is lent
abbrev pub give_back : Admission → Outcome (Unit {0}) Admission
give_back a = if nat_lt 0 a.slots then gives tt (record a { slots = a.slots - 1 }) else refuses NoSlot

-- the number of samples kept, and the controller with one more
abbrev pub sample : Admission → ℕ → ℕ → Outcome ℕ Admission
sample a moment micros =
    if nat_lt moment a.latest then refuses ClockBack
    else gives (min 1024 (length a.samples + 1)) (record a { samples = keep_last 1024 (a.samples ++ (moment, micros) ∷ []); latest = moment })

-- the latencies of the samples of the last 60,000 milliseconds
abbrev pub window_of : ℕ → List (ℕ × ℕ) → List ℕ
window_of now samples = map (λ s. s.1) (filter (λ s. nat_lt now (s.0 + 60000)) samples)

-- the number of items that are at most v
abbrev pub count_up_to : ℕ → List ℕ → ℕ
count_up_to v xs = count_by (λ x. nat_le x v) xs

-- the lesser of a number and another, if there is another
abbrev pub lesser : ℕ → Option ℕ → ℕ
lesser x None = x
lesser x (Some y) = min x y

-- the least of some numbers
unfoldable pub least : List ℕ → Option ℕ
least [] = None
least (x ∷ xs) = Some (lesser x (least xs))

-- the 99th percentile: the smallest sample with at least 99 of 100 at most it
unfoldable pub percentile : List ℕ → Option ℕ
percentile xs = least (filter (λ v. nat_le (99 * length xs) (100 * count_up_to v xs)) xs)

-- the percentile as a fact: it is a sample, at least 99 of 100 are at most it, and it is the smallest such sample
pub record IsPercentile (xs : List ℕ) (v : ℕ) : Type 0 where
  pub there : Contains xs v
  pub enough : 99 * length xs ≤ 100 * count_up_to v xs
  pub least : (w : ℕ) → Contains xs w → 99 * length xs ≤ 100 * count_up_to w xs → v ≤ w

-- the target after an adjustment
abbrev pub target_after : Admission → Option ℕ → ℕ
target_after a None = a.target
target_after a (Some p) =
    if nat_lt a.threshold p then max a.floor (a.target / 2) else if nat_le (2 * p) a.threshold then min a.ceiling (a.target + 1) else a.target

-- the 99th percentile of the last minute, and the controller with the target after it
abbrev pub adjust : Admission → ℕ → Outcome (Option ℕ) Admission
adjust a now =
    let found = percentile (window_of now a.samples) in
    if nat_lt now a.latest then refuses ClockBack else gives found (record a { target = target_after a found; latest = now })

-- the samples as pairs of moment and latency
abbrev pub pairs : List Sample → List (ℕ × ℕ)
pairs samples = map (λ s. (s.moment, s.micros)) samples

-- The names of the numbers that calls return.
use Rattle.std.specs.Prelude.{ℕ, List, [], ◌∷◌, slice_index_or, codes}

-- the names of the numbers from 0 on
abbrev pub names : List (List ℕ)
names =
    codes "Ok" ∷ codes "BadClock" ∷ codes "ClockFull" ∷ codes "CounterFull" ∷ codes "BadKey" ∷ codes "BadValue"
    ∷ codes "StaleContext" ∷ codes "Crowded" ∷ codes "JournalFull" ∷ codes "OtherRange" ∷ codes "Dirty" ∷ codes "Stale"
    ∷ codes "UnknownSession" ∷ codes "NotAsked" ∷ codes "WrongDigest" ∷ codes "NotCanonical" ∷ codes "OtherFormat"
    ∷ codes "SessionsFull" ∷ codes "NoSlot" ∷ codes "ClockBack" ∷ codes "UnknownHint" ∷ codes "HintsFull" ∷ codes "Gone"
    ∷ codes "Behind" ∷ codes "Unsettled" ∷ codes "Stranger" ∷ codes "LinkLost" ∷ codes "BadRing" ∷ codes "Down"
    ∷ codes "BadLine" ∷ codes "RowBroken" ∷ codes "BadMessage" ∷ codes "NoMemory" ∷ codes "Small" ∷ codes "Empty"
    ∷ codes "Held" ∷ codes "NoVersion" ∷ codes "BadPosition" ∷ []

-- the name of a number, or no bytes if no call returns it
abbrev pub name_numbered : ℕ → List ℕ
name_numbered number = slice_index_or names number []

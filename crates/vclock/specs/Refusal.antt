-- The numbers and names of refusals.
use Rattle.std.specs.Prelude.{ℕ, List, codes}
use Rattle.vclock.specs.declared.refusal.Refusal.{Refusal}
use Rattle.vclock.specs.declared.refusal.Refusal.TheVariants.{BadClock, ClockFull, CounterFull, BadKey, BadValue, StaleContext, Crowded, JournalFull, OtherRange, Dirty, Stale, UnknownSession, NotAsked, WrongDigest, NotCanonical, OtherFormat, SessionsFull, NoSlot, ClockBack, UnknownHint, HintsFull, Gone, Behind, Unsettled, Stranger, LinkLost, BadRing, Down, BadLine, RowBroken, BadMessage, NoMemory}

-- the number that scripts print
abbrev pub cause_number : Refusal → ℕ
cause_number BadClock = 1
cause_number ClockFull = 2
cause_number CounterFull = 3
cause_number BadKey = 4
cause_number BadValue = 5
cause_number (StaleContext held) = 6
cause_number Crowded = 7
cause_number JournalFull = 8
cause_number OtherRange = 9
cause_number Dirty = 10
cause_number Stale = 11
cause_number UnknownSession = 12
cause_number NotAsked = 13
cause_number WrongDigest = 14
cause_number NotCanonical = 15
cause_number OtherFormat = 16
cause_number SessionsFull = 17
cause_number NoSlot = 18
cause_number ClockBack = 19
cause_number UnknownHint = 20
cause_number HintsFull = 21
cause_number Gone = 22
cause_number (Behind seen held missing) = 23
cause_number (Unsettled seat part place) = 24
cause_number Stranger = 25
cause_number LinkLost = 26
cause_number BadRing = 27
cause_number Down = 28
cause_number BadLine = 29
cause_number (RowBroken offset) = 30
cause_number BadMessage = 31
cause_number NoMemory = 32

-- the name that scripts print
abbrev pub name_of : Refusal → List ℕ
name_of BadClock = codes "BadClock"
name_of ClockFull = codes "ClockFull"
name_of CounterFull = codes "CounterFull"
name_of BadKey = codes "BadKey"
name_of BadValue = codes "BadValue"
name_of (StaleContext held) = codes "StaleContext"
name_of Crowded = codes "Crowded"
name_of JournalFull = codes "JournalFull"
name_of OtherRange = codes "OtherRange"
name_of Dirty = codes "Dirty"
name_of Stale = codes "Stale"
name_of UnknownSession = codes "UnknownSession"
name_of NotAsked = codes "NotAsked"
name_of WrongDigest = codes "WrongDigest"
name_of NotCanonical = codes "NotCanonical"
name_of OtherFormat = codes "OtherFormat"
name_of SessionsFull = codes "SessionsFull"
name_of NoSlot = codes "NoSlot"
name_of ClockBack = codes "ClockBack"
name_of UnknownHint = codes "UnknownHint"
name_of HintsFull = codes "HintsFull"
name_of Gone = codes "Gone"
name_of (Behind seen held missing) = codes "Behind"
name_of (Unsettled seat part place) = codes "Unsettled"
name_of Stranger = codes "Stranger"
name_of LinkLost = codes "LinkLost"
name_of BadRing = codes "BadRing"
name_of Down = codes "Down"
name_of BadLine = codes "BadLine"
name_of (RowBroken offset) = codes "RowBroken"
name_of BadMessage = codes "BadMessage"
name_of NoMemory = codes "NoMemory"

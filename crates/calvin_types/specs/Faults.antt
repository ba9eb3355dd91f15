-- The number and the name of each fault. Both are of this project: they are what is printed of a fault.
--     number_of fault      its number
--     name_of fault      its name, as the codes of its letters
use Rattle.std.specs.Prelude.{ℕ, List, codes}
use Rattle.calvin_types.specs.declared.fault.Fault.{Fault}
use Rattle.calvin_types.specs.declared.fault.Fault.TheVariants.{OutOfMemory, TooManyKeys, Repeated, BadConfig, TooLong, LocksOutOfOrder, NoKeys, NotHeld, RoundsSpent, NotCurrent, Known, NoBatch, QueueFull, EmptySets, TooManyAttempts, EpochsSpent, NotComplete, NotClosed, Decided, AdmittedOutOfOrder, NotReady, Begun, NotAwaited, ReadsMissing, NotCollected, StaleJob, NotServed, NothingToLock, NotAtEnd, Older, NotMine, PointTooLate, PointOpen, NoRow, NoPoints, NoColdTable, OrderChanged, NoNode, NoPacket, TooManyTries, TooWide, Unsettled, Stale, Closed, NoRun, BadWorkers, NotEnded, BadJson, BadScript, ScriptTooLong, NotAJournal, JournalInUse, ReadFailed, WriteFailed, JournalFailed, NotExpected}

-- the number of a fault, by which programs tell refusals apart
abbrev pub number_of : Fault → ℕ
number_of OutOfMemory = 1
number_of TooManyKeys = 2
number_of Repeated = 3
number_of BadConfig = 4
number_of TooLong = 5
number_of LocksOutOfOrder = 10
number_of NoKeys = 11
number_of NotHeld = 12
number_of RoundsSpent = 20
number_of NotCurrent = 21
number_of Known = 22
number_of NoBatch = 23
number_of QueueFull = 30
number_of EmptySets = 31
number_of TooManyAttempts = 32
number_of EpochsSpent = 33
number_of NotComplete = 34
number_of NotClosed = 35
number_of Decided = 36
number_of AdmittedOutOfOrder = 40
number_of NotReady = 41
number_of Begun = 42
number_of NotAwaited = 43
number_of ReadsMissing = 44
number_of NotCollected = 45
number_of StaleJob = 46
number_of NotServed = 47
number_of NothingToLock = 48
number_of NotAtEnd = 50
number_of Older = 51
number_of NotMine = 52
number_of PointTooLate = 53
number_of PointOpen = 54
number_of NoRow = 55
number_of NoPoints = 56
number_of NoColdTable = 57
number_of OrderChanged = 58
number_of NoNode = 60
number_of NoPacket = 61
number_of TooManyTries = 70
number_of TooWide = 71
number_of Unsettled = 72
number_of Stale = 80
number_of Closed = 81
number_of NoRun = 82
number_of BadWorkers = 83
number_of NotEnded = 84
number_of BadJson = 90
number_of BadScript = 91
number_of ScriptTooLong = 92
number_of NotAJournal = 93
number_of JournalInUse = 94
number_of ReadFailed = 95
number_of WriteFailed = 96
number_of JournalFailed = 97
number_of NotExpected = 100

-- the name of a fault, as messages print it
abbrev pub name_of : Fault → List ℕ
name_of OutOfMemory = codes "OutOfMemory"
name_of TooManyKeys = codes "TooManyKeys"
name_of Repeated = codes "Repeated"
name_of BadConfig = codes "BadConfig"
name_of TooLong = codes "TooLong"
name_of LocksOutOfOrder = codes "OutOfOrder"
name_of NoKeys = codes "NoKeys"
name_of NotHeld = codes "NotHeld"
name_of RoundsSpent = codes "RoundsSpent"
name_of NotCurrent = codes "NotCurrent"
name_of Known = codes "Known"
name_of NoBatch = codes "NoBatch"
name_of QueueFull = codes "QueueFull"
name_of EmptySets = codes "EmptySets"
name_of TooManyAttempts = codes "TooManyAttempts"
name_of EpochsSpent = codes "EpochsSpent"
name_of NotComplete = codes "NotComplete"
name_of NotClosed = codes "NotClosed"
name_of Decided = codes "Decided"
name_of AdmittedOutOfOrder = codes "OutOfOrder"
name_of NotReady = codes "NotReady"
name_of Begun = codes "Begun"
name_of NotAwaited = codes "NotAwaited"
name_of ReadsMissing = codes "ReadsMissing"
name_of NotCollected = codes "NotCollected"
name_of StaleJob = codes "StaleJob"
name_of NotServed = codes "NotServed"
name_of NothingToLock = codes "NothingToLock"
name_of NotAtEnd = codes "NotAtEnd"
name_of Older = codes "Older"
name_of NotMine = codes "NotMine"
name_of PointTooLate = codes "PointTooLate"
name_of PointOpen = codes "PointOpen"
name_of NoRow = codes "NoRow"
name_of NoPoints = codes "NoPoints"
name_of NoColdTable = codes "NoColdTable"
name_of OrderChanged = codes "OrderChanged"
name_of NoNode = codes "NoNode"
name_of NoPacket = codes "NoPacket"
name_of TooManyTries = codes "TooManyTries"
name_of TooWide = codes "TooWide"
name_of Unsettled = codes "Unsettled"
name_of Stale = codes "Stale"
name_of Closed = codes "Closed"
name_of NoRun = codes "NoRun"
name_of BadWorkers = codes "BadWorkers"
name_of NotEnded = codes "NotEnded"
name_of BadJson = codes "BadJson"
name_of BadScript = codes "BadScript"
name_of ScriptTooLong = codes "ScriptTooLong"
name_of NotAJournal = codes "NotAJournal"
name_of JournalInUse = codes "JournalInUse"
name_of ReadFailed = codes "ReadFailed"
name_of WriteFailed = codes "WriteFailed"
name_of JournalFailed = codes "JournalFailed"
name_of NotExpected = codes "NotExpected"

-- What the engine `serial` writes. The text is of this project; what it tells is the serial run of the merged order (Thomson
-- et al. 2012, sections 3.1 and 3.2).
--     text_of m show sets script      the lines of the serial run of the script's merged order on no rows, with undeclared sets of this kind, and the last epoch
--     text_in sets script      the same for the application that a script names
--     serial_text sets bytes      the text for the bytes of a script, or why there is none
--     IsSerialFault fault      a fault that the engine may end with, whatever its source and its sink are
use Rattle.std.specs.Prelude.{ℕ, List, ◌++◌, length, map, if◌then◌else◌, nat_lt, Result, Ok, Err}
use Rattle.std.specs.FinMap.{empty}
use Rattle.calvin_types.specs.declared.fault.Fault.{Fault}
use Rattle.calvin_types.specs.declared.fault.Fault.TheVariants.{OutOfMemory, BadJson, BadScript, ScriptTooLong, ReadFailed, WriteFailed}
use Rattle.calvin_edge.specs.declared.reading.TheConstants.{MOST_BYTES}
use Rattle.calvin_app.specs.Meaning.{Meaning}
use Rattle.calvin_app.specs.Serial.{serial}
use Rattle.calvin_app.specs.Kv.{kv}
use Rattle.calvin_stock.specs.Stock.{stock}
use Rattle.calvin_script.specs.Scripts.{Contents}
use Rattle.calvin_script.specs.Applications.{AppContents, OfKv, OfStock, OfOnce, app_script_from}
use Rattle.calvin_script.specs.OnceOperations.{once_stock}
use Rattle.calvin_script.specs.Reading.{and_then}
use Rattle.calvin_text.specs.Texts.{kv_text, stock_text, lines, finished}
use Rattle.calvin_serial.specs.declared.undeclared.UndeclaredSets.{UndeclaredSets}
use Rattle.calvin_serial.specs.Scouting.{order_of}

-- the merged order of all the script's epochs, run one at a time on no rows: a line for each request, and then the last epoch
abbrev pub text_of : {Args Row Reply : Type 0} → Meaning Args Row Reply → (Reply → List ℕ) → UndeclaredSets → Contents Args → Result (List ℕ) Fault
text_of m show sets script = and_then (order_of m script sets) (λ placed.
    Ok (lines show placed (serial m (map (λ e. e.1) placed) empty).1 ++ finished (length script.epochs)))

-- of the application that is named
abbrev pub text_in : UndeclaredSets → AppContents → Result (List ℕ) Fault
text_in sets (OfKv script) = text_of kv kv_text sets script
text_in sets (OfStock script) = text_of stock stock_text sets script
text_in sets (OfOnce script) = text_of once_stock stock_text sets script

abbrev pub serial_text : UndeclaredSets → List ℕ → Result (List ℕ) Fault
serial_text sets bytes = if nat_lt MOST_BYTES (length bytes) then Err ScriptTooLong else and_then (app_script_from bytes) (text_in sets)

-- want of memory, a script that is refused, or a device that failed
abbrev pub IsSerialFault : Fault → Type 0
IsSerialFault OutOfMemory = Unit {0}
IsSerialFault BadJson = Unit {0}
IsSerialFault BadScript = Unit {0}
IsSerialFault ScriptTooLong = Unit {0}
IsSerialFault ReadFailed = Unit {0}
IsSerialFault WriteFailed = Unit {0}
IsSerialFault _ = ⊥

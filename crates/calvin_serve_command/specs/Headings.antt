-- The first line of a journal. It is of this project.
--     name_of application      its name
--     scout_text sets      whether undeclared sets are found over the rows before the epoch, `true` or `false`
--     heading application setting      `{"journal":1,"partitions":P,"app":APP,"scout":B}`
use Rattle.std.specs.Prelude.{ℕ, List, ◌++◌, codes, decimal}
use Rattle.calvin_serial.specs.declared.undeclared.UndeclaredSets.{UndeclaredSets}
use Rattle.calvin_serial.specs.declared.undeclared.UndeclaredSets.TheVariants.{First, Scouted}
use Rattle.calvin_serve_desk.specs.declared.setting.Setting.{Setting}
use Rattle.calvin_script.specs.declared.reading.AppName.{AppName}
use Rattle.calvin_script.specs.declared.reading.AppName.TheVariants.{Kv, Stock, Once}

abbrev pub name_of : AppName → List ℕ
name_of Kv = codes "kv"
name_of Stock = codes "stock"
name_of Once = codes "once"

abbrev pub scout_text : UndeclaredSets → List ℕ
scout_text First = codes "false"
scout_text Scouted = codes "true"

abbrev pub heading : AppName → Setting → List ℕ
heading application setting = codes "{\"journal\":1,\"partitions\":" ++ decimal setting.partitions ++ codes ",\"app\":\"" ++ name_of application
    ++ codes "\",\"scout\":" ++ scout_text setting.sets ++ codes "}"

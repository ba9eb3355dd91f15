-- What a thread is handed may go to it: the bounds of the type parameters say so.
use denote.Param.Send.{param_send}
use Rattle.calvin_wide.proofs.threads.fn.Crew.hire_one.life.Goals as goal

pub carry-requires-send-G : goal.carry-requires-send-G
carry-requires-send-G g c = λ κs within. param_send 3 _ c.requires.1.1.1.1.1.1.1.1.1.3

pub carry-requires-send-J : goal.carry-requires-send-J
carry-requires-send-J g c = λ κs within. param_send 4 _ c.requires.1.1.1.1.1.1.1.1.1.4

pub work-requires-send-G : goal.work-requires-send-G
work-requires-send-G g c = λ κs within. param_send 3 _ c.requires.1.1.1.1.1.1.1.1.1.3

pub work-requires-send-J : goal.work-requires-send-J
work-requires-send-J g c = λ κs within. param_send 4 _ c.requires.1.1.1.1.1.1.1.1.1.4

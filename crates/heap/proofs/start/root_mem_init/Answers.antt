-- By the laws `sets-code` and `refuses-code`.
use Rattle.common.specs.Kit.{sym, ap, ◌∙◌, []}
use Rattle.sound_calls.specs.Answer.{ok}
use Rattle.sound_calls.specs.Code.{leaves}
use Rattle.heap.proofs.SetUps.{set-up-limits, sets-code, refuses-code}
use Rattle.heap.proofs.start.root_mem_init.Goals as goal

pub init_memory-requires : goal.init_memory-requires
init_memory-requires c = set-up-limits _ _ _ _ (sym c.in-Ok.ensures)

pub returns-in-Ok : goal.returns-in-Ok
returns-in-Ok c = ap (leaves (ok [])) c.init_memory.ensures ∙ sets-code _ _ _ _ (sym c.in-Ok.ensures)

pub returns-in-Err : goal.returns-in-Err
returns-in-Err c = rw (c.refuse.ensures, c.empty_region.ensures) (refuses-code _ _ _ _ c.in-Err.why (sym c.in-Err.ensures))

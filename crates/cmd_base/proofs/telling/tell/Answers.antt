use Rattle.std.proofs.Common.{sym}
use Rattle.cmd_base.specs.Statuses.{text_of}
use Rattle.cmd_base.proofs.Pieces.{puts_tells}
use Rattle.cmd_base.proofs.telling.tell.Goals as goal

pub returns-in-BadWords-clause-told : goal.returns-in-BadWords-clause-told
unfolding text_of
returns-in-BadWords-clause-told g c = rw c.in-BadWords.is (puts_tells _ _ _ _ _ _ c.put-whole.ensures.told)

pub returns-in-OutOfMemory-clause-told : goal.returns-in-OutOfMemory-clause-told
unfolding text_of
returns-in-OutOfMemory-clause-told g c = rw c.in-OutOfMemory.is (puts_tells _ _ _ _ _ _ c.put-whole-in-OutOfMemory.ensures.told)

pub returns-in-Unopened-clause-told : goal.returns-in-Unopened-clause-told
unfolding text_of
returns-in-Unopened-clause-told g c = rw c.in-Unopened.is (puts_tells _ _ _ _ _ _ c.put-whole-in-Unopened.ensures.told)

pub returns-in-Unread-clause-told : goal.returns-in-Unread-clause-told
unfolding text_of
returns-in-Unread-clause-told g c = rw c.in-Unread.is (puts_tells _ _ _ _ _ _ c.put_three-whole.ensures.told)

pub returns-in-Long-clause-told : goal.returns-in-Long-clause-told
unfolding text_of
returns-in-Long-clause-told g c = rw c.in-Long.is (puts_tells _ _ _ _ _ _ c.put_three-whole-in-Long.ensures.told)

pub returns-in-ScriptRefused-clause-told : goal.returns-in-ScriptRefused-clause-told
unfolding text_of
returns-in-ScriptRefused-clause-told g c = rw c.in-ScriptRefused.is (puts_tells _ _ _ _ _ _ c.put_script-whole.ensures.told)

pub returns-in-ConfigRefused-clause-told : goal.returns-in-ConfigRefused-clause-told
unfolding text_of
returns-in-ConfigRefused-clause-told g c = rw (c.in-ConfigRefused.is, sym c.as_str.ensures) (puts_tells _ _ _ _ _ _ c.put_config-whole.ensures.told)

pub returns-in-NoSource-clause-told : goal.returns-in-NoSource-clause-told
unfolding text_of
returns-in-NoSource-clause-told g c = rw c.in-NoSource.is (puts_tells _ _ _ _ _ _ c.put_source-whole.ensures.told)

pub returns-in-NotInLanes-clause-told : goal.returns-in-NotInLanes-clause-told
unfolding text_of
returns-in-NotInLanes-clause-told g c = rw c.in-NotInLanes.is (puts_tells _ _ _ _ _ _ c.put_lanes-whole.ensures.told)

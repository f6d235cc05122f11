use Rattle.std.proofs.Common.{ap, ◌∙◌}
use Rattle.std.specs.Prelude.{codes}
use Rattle.serde_json.proofs.Views.{view-Object}
use Rattle.serde_json.specs.Data.{object}
use Rattle.json_frames.specs.Calls.{view_if}
use Rattle.json_frames.specs.Written.{put_if}
use Rattle.json_frames.proofs.ElementsWritten.{element_put}
use Rattle.json_frames.proofs.writing.element_of.Goals as goal

pub returns : goal.returns
returns c =
    let versions = view_if c.args.versions in
    let payload = view_if c.args.payload in
    view-Object c.put_if-2.new.members
    ∙ ap object (c.in_ok-put_if-2.ensures ∙ ap (put_if (codes "Payload") payload) (c.in_ok-put_if.ensures ∙ ap (put_if (codes "MetaDataVersion") versions) c.in_ok-members.ensures))
    ∙ element_put c.args.writer c.args.word.now versions payload c.args.number

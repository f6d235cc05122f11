use Rattle.std.proofs.Common.{◌+◌, List, sym, subst}
use Rattle.reader_group.specs.declared.group.ReaderGroup.{ReaderGroup}
use Rattle.session_parts.proofs.MadeTo.{MadeTo, made-none, made-more}
use Rattle.session_parts.proofs.Opened.{IsNewReadGroup}
use Rattle.session_parts.proofs.making.read_groups_of.Goals as goal

pub loop-r-init : goal.loop-r-init
loop-r-init c =
    subst (λ (l : List ReaderGroup). MadeTo (IsNewReadGroup c.args.config.now) 0 l) (sym c.new-groups.ensures.items) (made-none (IsNewReadGroup c.args.config.now))

pub loop-r-preserved : goal.loop-r-preserved
loop-r-preserved c =
    let e = c.in_ok-new.ensures in
    subst (λ (l : List ReaderGroup). MadeTo (IsNewReadGroup c.args.config.now) (c.loop-r.r + 1) l) (sym c.in_ok-push.ensures.items)
    (made-more (IsNewReadGroup c.args.config.now) c.loop-r.r c.loop-r.groups.items c.in_ok-new.field-0 c.loop-r.invariant
    (record { may = record { made = e.made; index = e.index }; opening = e.opening }))

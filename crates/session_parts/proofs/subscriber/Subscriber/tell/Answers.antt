use Rattle.std.proofs.Common.{◌≡◌, ◌<◌, ◌≤◌, length, sym, ◌∙◌, subst, arith}
use Rattle.ps_config.specs.declared.parts.ReadGroupPart.{ReadGroupPart}
use Rattle.reader_group.specs.declared.group.ReaderGroup.{ReaderGroup}
use Rattle.reader_group.specs.Groups.{reader_count}
use Rattle.session_parts.specs.Holding.{MayReceive}
use Rattle.session_parts.specs.Pumping.{TellsGroup}
use Rattle.session_parts.proofs.TellingReaders.{told-none, told-more, told-all, low-among, few-readers, made-count}
use Rattle.session_parts.proofs.subscriber.Subscriber.tell.Goals as goal

pub loop-r-init : goal.loop-r-init
loop-r-init c = told-none c.args.config.now c.args.self.now.groups.items c.args.tree.now

pub tell_readers-requires-clause-few : goal.tell_readers-requires-clause-few
tell_readers-requires-clause-few c =
    let low : c.loop-r.r < length c.args.config.now.readgroup = omega (arith, c.loop-r-test.true, c.len-r-end.ensures, c.args.self.now.groups.ok.0, c.requires.holds.groups.count) in
    subst (λ (p : ReadGroupPart). length p.reader ≤ 16) (sym c.read_group_part.ensures) (few-readers c.args.config.now c.loop-r.r c.requires.good low)

pub tell_readers-requires-clause-made : goal.tell_readers-requires-clause-made
tell_readers-requires-clause-made c =
    let low : c.loop-r.r < length c.args.config.now.readgroup = omega (arith, c.loop-r-test.true, c.len-r-end.ensures, c.args.self.now.groups.ok.0, c.requires.holds.groups.count) in
    let may = subst (λ (g : ReaderGroup). MayReceive c.args.config.now c.loop-r.r g) (sym c.index.ensures) (c.requires.holds.groups.each c.loop-r.r low c.index.result.now) in
    subst (λ (p : ReadGroupPart). reader_count c.index.result.now ≡ length p.reader) (sym c.read_group_part.ensures)
    (made-count c.args.config.now c.loop-r.r c.index.result.now may.made may.index)

pub tell_readers-requires-clause-there : goal.tell_readers-requires-clause-there
tell_readers-requires-clause-there c =
    λ i within.
    let low : c.loop-r.r < length c.args.config.now.readgroup = omega (arith, c.loop-r-test.true, c.len-r-end.ensures, c.args.self.now.groups.ok.0, c.requires.holds.groups.count) in
    low-among c.args.config.now c.loop-r.tree.counts c.loop-r.r i (c.loop-r.invariant.counts ∙ c.requires.tree) low
    (subst (λ (p : ReadGroupPart). i < length p.reader) c.read_group_part.ensures within)

pub loop-r-preserved : goal.loop-r-preserved
loop-r-preserved c =
    let low : c.loop-r.r < length c.args.config.now.readgroup = omega (arith, c.loop-r-test.true, c.len-r-end.ensures, c.args.self.now.groups.ok.0, c.requires.holds.groups.count) in
    told-more c.args.config.now c.args.self.now.groups.items c.loop-r.r c.index.result.now c.args.tree.now c.loop-r.tree c.tell_readers.new.tree c.requires.tree low c.index.ensures
    (subst (λ (p : ReadGroupPart). TellsGroup c.index.result.now c.loop-r.r (length p.reader) c.loop-r.tree c.tell_readers.new.tree) c.read_group_part.ensures c.tell_readers.ensures)
    c.loop-r.invariant

pub returns-clause-told : goal.returns-clause-told
returns-clause-told c =
    let all : c.loop-r.r ≡ length c.args.config.now.readgroup
    = omega (arith, c.loop-r-test.false, c.loop-r.auto.r-end, c.len-r-end.ensures, c.args.self.now.groups.ok.0, c.requires.holds.groups.count) in
    told-all c.args.config.now c.args.self.now c.loop-r.r c.args.tree.now c.loop-r.tree c.requires.tree all c.loop-r.invariant

use Rattle.std.proofs.Common.{◌≡◌, drop}
use Rattle.std.specs.Prelude.{max}
use Rattle.writer_group.specs.Needs.{bytes_need, datagrams_need, frames_need, most_of}
use Rattle.writer_group.proofs.need.Need.of.Given as goal

-- those of the groups so far, and those of the groups that are left
abbrev pub invariant-loop-group : goal.invariant-loop-group
invariant-loop-group l =
    let publisher = l.config.publisher.id in
    let metas = l.config.dataset in
    let rest = drop l.group-index l.groups in
    record {
      frames : max l.most.frames (most_of frames_need rest) ≡ most_of frames_need l.groups;
      bytes : max l.most.bytes (most_of (bytes_need publisher metas) rest) ≡ most_of (bytes_need publisher metas) l.groups;
      datagrams : max l.most.datagrams (most_of (datagrams_need publisher metas) rest) ≡ most_of (datagrams_need publisher metas) l.groups;
    }

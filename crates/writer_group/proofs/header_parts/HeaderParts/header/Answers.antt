use Rattle.std.proofs.Common.{rules}
use Rattle.writer_group.proofs.header_parts.HeaderParts.header.Goals as goal

pub returns-clause-written : goal.returns-clause-written
returns-clause-written c = record {
  senders = record {
    publisher = search rules;
    text = c.requires.publisher.short;
    group = search rules;
    version = c.version_in.ensures.carried;
    ids = c.requires.ids;
    security = c.requires.security;
  };
  header = record {
    publisher = c.requires.publisher.known;
    class_id = c.class_id_is_whole.ensures;
    group = c.group_in.ensures.small;
    version = c.version_in.ensures.small;
    message_number = c.number_if.ensures.small;
    sequence = c.number_if-2.ensures.small;
    ids = c.requires.is_ids;
    security = c.security_is_narrow.ensures;
  };
}

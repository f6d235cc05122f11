use Rattle.session_model.specs.Counts.{most_ticks}
use Rattle.gateway_laws.proofs.Relayed.{relayed}
use Rattle.gateway_laws.proofs.Rising.{Laws}
use Rattle.gateway_laws.proofs.laws.a_relayed_row_is_of_the_first_history.Goals as goal

pub returns : goal.returns
returns c =
    let laws : Laws = record {
      comes = c.matched_readers_hold_published_versions.ensures.comes;
      reads = c.matched_readers_hold_published_versions.ensures.reads;
      sent = λ meta short s deeds arrivals h rows. c.a_held_row_was_sent.ensures.numbered s deeds short arrivals h (meta, rows);
      words = record { belongs = c.cut_rows_have_words.ensures.belongs; row = c.cut_rows_have_words.ensures.row };
      ring = c.a_ring_makes_senders_of_its_key_group.ensures;
      turns = c.each_turn_of_a_session_holds.ensures most_ticks;
      few = c.a_session_has_at_most_4097_ticks.ensures;
    } in
    relayed laws c.matched_readers_hold_published_versions.ensures.holds c.a_matched_reader_reads_its_writer.ensures.meta

use Rattle.std.proofs.Common.{ap, ℕ, List, [], ◌∷◌}
use Rattle.json_text.proofs.Small.{JsonLaws, small-kept, small-line, small-read-as, small-reads, small-transcoded}
use Rattle.json_text.proofs.witness.a_small_message_meets_the_premises.Goals as goal

pub returns : goal.returns
returns c =
    let laws : JsonLaws = record {
      is_written = c.written_parts_are_read.ensures;
      is_read = c.what_is_written_is_read.ensures.read;
      is_accepted = c.what_is_written_is_read.ensures.accepted;
    } in
    let sound = c.the_built_in_configuration_is_sound.ensures.sound in
    record {
      transcoded = small-transcoded;
      line = ap (λ (bytes : List ℕ). bytes ∷ []) small-line;
      read_as = small-read-as laws sound;
      read = small-reads laws sound;
      kept = small-kept;
    }

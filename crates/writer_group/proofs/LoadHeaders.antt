-- Headers in front of loads.
use Rattle.std.proofs.Common.{◌≡◌, ℕ, [], ◌∷◌, refl, ap, ◌∙◌, Option}
use Rattle.uadp_header.specs.Headers.{HeaderValue, NoIds, SecurityValue}
use Rattle.uadp_header.specs.Spelling.{IsWritten, header_bytes, header_len}
use Rattle.uadp_header.proofs.Lengths.{length-is_header}
use Rattle.ps_config.specs.Headers.{security_value}
use Rattle.writer_group.specs.declared.laying.Cargo.{Cargo}
use Rattle.writer_group.specs.declared.load.Load.{Load}
use Rattle.writer_group.specs.declared.load.Load.TheVariants as loads
use Rattle.writer_group.specs.Envelopes.{IsSecuredAs}
use Rattle.writer_group.specs.Holding.{cargo_in, numbering_of}
use Rattle.writer_group.specs.Loading.{HasHeaderOf}
use Rattle.writer_group.specs.Posting.{MayPost, load_header}
use Rattle.writer_group.specs.Sealing.{Envelope}
use Rattle.writer_group.proofs.HeaderLengths.{numbers-len}

pub has-header : (e : Envelope) (cargo : Cargo) (load : Load) (index : ℕ) (security : Option SecurityValue) (h : HeaderValue) → h ≡ load_header e index (cargo_in cargo) load security → IsWritten h
    → MayPost e cargo (load ∷ []) → IsSecuredAs e.settings security → HasHeaderOf (cargo_in cargo) load (header_bytes h)
has-header e cargo (loads.Frames first count) index security h is written may secured = tt
has-header e cargo (loads.Chunk frame chunk) index security h is written may secured = tt
has-header e cargo loads.Slots index security h is written may secured =
    length-is_header h written.header ∙ ap header_len is
    ∙ numbers-len e.publisher e.settings (numbering_of e index security) (record { sequence = 0; message = 0; security = security_value e.settings.security }) NoIds secured (record { there = refl; long = refl })
    ∙ may.start

use Rattle.cmd_relay.proofs.Tells.{held, stores-told, tells-relay, waits}
use Rattle.cmd_relay.proofs.laws.the_lines_of_a_gateway_tell_stores.Goals as goal

pub returns-clause-stores : goal.returns-clause-stores
returns-clause-stores c =
    let law = c.a_gateway_publishes_what_is_stored.ensures.publish in
    λ p second sources relay rows g w line is versions within line_is.
    stores-told p second sources relay rows (c.a_gateway_tells_the_first_history.ensures p second sources relay rows is versions)
    (λ g w later before turn within split sends. law p second sources relay g w later before turn is within split sends) g w line within line_is

pub returns-clause-waits : goal.returns-clause-waits
returns-clause-waits c = waits

pub returns-clause-held : goal.returns-clause-held
returns-clause-held c =
    λ p second sources relay rows r i g w row line is versions numbered honest line_is row_is.
    held p second sources relay rows r i g w row line numbered.there numbered.matched line_is row_is
    ((c.a_gateway_tells_the_first_history.ensures p second sources relay rows is versions).readers r i g w row numbered honest row_is)
    (c.a_kept_version_is_of_its_store.ensures.of_origin p)

pub returns-clause-text : goal.returns-clause-text
returns-clause-text c =
    let law = c.a_gateway_publishes_what_is_stored.ensures.publish in
    λ p first second sources relay rows closed text is versions text_is.
    tells-relay p first second sources relay rows closed text (c.a_gateway_tells_the_first_history.ensures p second sources relay rows is versions)
    (c.a_kept_version_is_of_its_store.ensures.of_origin p)
    (λ g w later before turn within split sends. law p second sources relay g w later before turn is within split sends) text_is

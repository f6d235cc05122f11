use Rattle.cases_json.proofs.sending.tap_over.Given as goal

-- the tap is over this link
abbrev pub ghosts-tapped : goal.ghosts-tapped
ghosts-tapped g a = record {
  loan = a.inner.link.ghost_name;
  told = g.L.Link.told a.inner.link.now;
  opening = g.L.Link.opened_with a.inner.link.now;
  config = a.config.now;
}

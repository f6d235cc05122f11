use Rattle.cmd_json.proofs.playing.written_play.Given as goal

-- the tap is over this link
abbrev pub ghosts-tapped_play : goal.ghosts-tapped_play
ghosts-tapped_play g a = record {
  loan = a.inner.link.ghost_name;
  told = g.L.Link.told a.inner.link.now;
  opening = g.L.Link.opened_with a.inner.link.now;
  config = a.config.now;
}

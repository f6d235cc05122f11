use Rattle.device.proofs.storing.state_with.Goals as goal

pub returns-clause-state : goal.returns-clause-state
returns-clause-state c = record { fingerprint = c.told-fingerprint; count = c.told-words; words = c.requires }

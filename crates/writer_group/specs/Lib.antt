-- The definition of a group's turns: what each writer answers, the frames, the payloads they are laid out in, the headers, and the protected datagrams.
pub mod Turns
pub mod Payloads
pub mod Envelopes
pub mod Sealing
-- What the contracts of the public calls and the laws say beside it. It has where a group stands and what its turns ask, the limits, the memory that
-- turns need, and a writer's own part of a turn. It has a group's part of the configuration, a sender that may be lent, the groups that share one, and what
-- headers and counts ask.
pub mod Standing
pub mod Limits
pub mod Needs
pub mod Answering
pub mod Parts
pub mod Lending
pub mod Sharing
pub mod Turning
-- Inner machinery of the code's proofs, which no caller needs: what the bytes, the loads and the fronts in memory stand for, and the steps in which
-- the datagrams are planned, laid and posted.
pub mod Holding
pub mod Making
pub mod Posting
pub mod Planning
pub mod Leads
pub mod Loading
pub mod Slotting
pub mod Numbers
pub mod Setup

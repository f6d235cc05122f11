use Rattle.std.proofs.Common.{◌≡◌, drop}
use Rattle.mem_edge.specs.MemoryFiles.{file_in}
use Rattle.mem_edge.proofs.memory_folder.find.Given as goal

-- what is left has the file that all have
abbrev pub invariant-loop-file : goal.invariant-loop-file
invariant-loop-file l = file_in (drop l.file-index l.files) l.name ≡ file_in l.files l.name

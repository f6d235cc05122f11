-- What a folder in memory shows: its files, the reads that it was told to fail, and its counts.
use Rattle.std.specs.Prelude.{ℕ, Bool, List, Option, ◌||◌, is_none}
use Rattle.mem_edge.specs.Calls.{is_named}
use Rattle.mem_edge.specs.declared.memory_folder.MemoryFolder.{MemoryFolder}
use Rattle.mem_edge.specs.MemoryFiles.{file_in}

abbrev pub told_file : MemoryFolder → List ℕ → Option (List ℕ)
told_file folder name = file_in folder.files.items name

-- the numbers of the reads that fail
abbrev pub named_reads : MemoryFolder → List ℕ
named_reads folder = folder.fails.items

-- how many reads there were, which is the number of the next
abbrev pub reads_made : MemoryFolder → ℕ
reads_made folder = folder.reads

abbrev pub faults_of : MemoryFolder → ℕ
faults_of folder = folder.faults

-- the next read is named, or there is no such file
abbrev pub fails_reading : MemoryFolder → List ℕ → Bool
fails_reading folder name = is_named (named_reads folder) (reads_made folder) || is_none (told_file folder name)

-- How do contracts see the folder, the feed and the sink of a run, before and after it?
use Rattle.std.specs.Prelude.{ℕ, ◌/◌, List, [], Option, length, slice_index_or}
use Rattle.std.specs.List.{sum_by}
use Rattle.tex_world.specs.World.{Files}
use Rattle.answer_page.specs.Page.{SinkState}
use Rattle.tex_world.specs.Tap.{TapState}
use Rattle.tex_world.specs.Folder.{FolderState}
use Rattle.tiff_format.specs.declared.cut.Cut.{Cut}
use Rattle.command_line.specs.declared.options.RunOptions.{RunOptions}
use Rattle.tile_store.specs.Tile.{CachedTile}
use Rattle.shard_gate.specs.Gate.{GateState}
use Rattle.tile_source.specs.Pass.{PassState}
use Rattle.request_lang.specs.declared.closing.Counts.{Counts}

-- a feed: how often it has failed and, if it is modelled, the bytes that are left
pub record FeedState : Type 0 where
  pub faults : ℕ
  pub left : Option (List ℕ)

-- the source of the files: how many I/O errors it has had, and how often it met a newer generation
pub record SourceState : Type 0 where
  pub faults : ℕ
  pub moves : ℕ

-- a feed, as its ghost members describe it
abbrev pub feed_state : {I : Type 0} → (I → ℕ) → (I → Option (List ℕ)) → I → FeedState
feed_state faults left feed = record { faults = faults feed; left = left feed }

-- the source made of a folder and the taps given back to it
abbrev pub source_of_folder : FolderState → SourceState
source_of_folder folder = record { faults = folder.faults; moves = folder.moves }

-- the source made of a tap
abbrev pub source_of_tap : TapState → SourceState
source_of_tap tap = record { faults = tap.faults; moves = tap.moves }

-- ---- several of these together

-- the surroundings of the top call: the folder, the feed of the list and the sink of the answers
pub record Around : Type 0 where
  pub folder : FolderState
  pub feed : FeedState
  pub sink : SinkState

-- what a list comes from: the folder and the feed
pub record Inputs : Type 0 where
  pub folder : FolderState
  pub feed : FeedState

-- the state of answering: the source that lines are read from, and the sink of the lines
pub record Progress : Type 0 where
  pub source : SourceState
  pub sink : SinkState

-- The terms of a cache: its cut, the number of shards, the share of each in bytes, and the number
-- of passes.
pub record Terms : Type 0 where
  pub cut : Cut
  pub shards : ℕ
  pub share : ℕ
  pub passes : ℕ

-- What requests are answered from: the files of the world, the number of each name in the folder,
-- the terms of the cache, and the number of workers.
pub record Setup : Type 0 where
  pub files : Files
  pub number_of : List ℕ → Option ℕ
  pub terms : Terms
  pub workers : ℕ

-- The microcache of a worker, and its counts: needs, hits and uncached needs.
pub record Tally : Type 0 where
  pub recent : List CachedTile
  pub needs : ℕ
  pub hits : ℕ
  pub apart : ℕ

-- A worker: what it has seen of each file, its permits and holds, its counts, and the source made
-- of its tap.
pub record Sight : Type 0 where
  pub seen : List ℕ
  pub permits : ℕ
  pub holds : ℕ
  pub tally : Tally
  pub source : SourceState

-- the terms that options ask for; the budget is divided among the shards
abbrev pub terms_for : RunOptions → Terms
terms_for o = record {
  cut = o.cut;
  shards = o.shards;
  share = o.budget / o.shards;
  passes = o.workers;
}

-- the terms of a gate
abbrev pub terms_of : GateState → Terms
terms_of gate = record {
  cut = gate.cut;
  shards = length gate.id;
  share = gate.share;
  passes = gate.passes;
}

-- the folder, the feed and the sink together
abbrev pub around_of : FolderState → FeedState → SinkState → Around
around_of folder feed sink = record { folder = folder; feed = feed; sink = sink }

-- the folder and the feed together
abbrev pub inputs_of : FolderState → FeedState → Inputs
inputs_of folder feed = record { folder = folder; feed = feed }

-- the source and the sink together
abbrev pub progress_of : SourceState → SinkState → Progress
progress_of source sink = record { source = source; sink = sink }

-- the setup with the files as a folder numbers them, these terms, and this many workers
abbrev pub setup_of : Files → FolderState → Terms → ℕ → Setup
setup_of files folder terms workers =
    record { files = files; number_of = folder.number_of; terms = terms; workers = workers }

-- what a pass has counted
abbrev pub tally_of : PassState → Tally
tally_of pass = record {
  recent = pass.pinned.recent;
  needs = pass.needs;
  hits = pass.hits;
  apart = pass.apart;
}

-- the counts in a worker's line
abbrev pub counts_of : PassState → Counts
counts_of pass = record { needs = pass.needs; hits = pass.hits; apart = pass.apart }

-- a worker, given by its pass and its tap
abbrev pub sight_of : PassState → TapState → Sight
sight_of pass tap = record {
  seen = pass.view.seen;
  permits = pass.pinned.seat.permits;
  holds = length pass.pinned.holds;
  tally = tally_of pass;
  source = source_of_tap tap;
}

-- ---- several workers

-- counts of 0
abbrev pub no_tally : Tally
no_tally = record { recent = []; needs = 0; hits = 0; apart = 0 }

-- a worker that has seen nothing
abbrev pub no_sight : Sight
no_sight = record {
  seen = [];
  permits = 0;
  holds = 0;
  tally = no_tally;
  source = record { faults = 0; moves = 0 };
}

-- worker w in a list of workers
abbrev pub sight_at : List Sight → ℕ → Sight
sight_at crew w = slice_index_or crew w no_sight

-- the source made of the taps of all workers
abbrev pub source_of_crew : List Sight → SourceState
source_of_crew crew = record {
  faults = sum_by (λ s. s.source.faults) crew;
  moves = sum_by (λ s. s.source.moves) crew;
}

-- What the lines so far have given, and what a line adds.
use Rattle.std.specs.Prelude.{ℕ, ◌+◌, ◌-◌, List, [], ◌∷◌, ◌++◌, length, replicate, filter_map, slice_index_or, slice_set}
use Rattle.kn_base.specs.declared.heap.Sizes.{Sizes}
use Rattle.kn_graph.specs.declared.calls.Call.{Call}
use Rattle.kn_graph.specs.Counts.{births_among}
use Rattle.kn_lines.specs.declared.built.Built.{Built}
use Rattle.kn_lines.specs.declared.built.HeaderWord.{HeaderWord}
use Rattle.kn_lines.specs.declared.built.HeaderWord.TheVariants as header
use Rattle.kn_lines.specs.declared.built.FirstWord.{FirstWord}
use Rattle.kn_lines.specs.declared.built.FirstWord.TheVariants as first
use Rattle.kn_lines.specs.declared.header_lines.FrameSizes.{FrameSizes}
use Rattle.kn_lines.specs.declared.header_lines.NameCounts.{NameCounts}
use Rattle.kn_lines.specs.Numbers.{value_at}
use Rattle.kn_lines.specs.Orders.{order_of}
use Rattle.kn_lines.specs.Values.{values_of, call_of, no_frames, no_names, frames_from, names_from, layout_of}
use Rattle.kn_script.specs.Scripts.{Scripted, Progress, counts_of}

-- one more call of a thread
abbrev pub with_call : ℕ → Call → List (List Call) → List (List Call)
with_call thread made threads = slice_set threads thread (slice_index_or threads thread [] ++ made ∷ [])

-- before the first line
abbrev pub start : Built → Progress
start built = record {
  built = built;
  frames = no_frames;
  names = no_names;
  layouts = [];
  turns = 100000000;
  threads = [];
  order = [];
  stage = 0;
  next = 0;
  calls = 0;
}

-- the progress behind a line with this header word and these words behind it
abbrev pub behind_header : Progress → HeaderWord → List (List ℕ) → Progress
behind_header p header.Heap words = record p { frames = frames_from (values_of words); stage = 1 }
behind_header p header.Names words = record p { names = names_from (values_of words); stage = 2 }
behind_header p header.Layout words = record p { layouts = p.layouts ++ layout_of words ∷ [] }
behind_header p header.Threads words = record p { threads = replicate (value_at words 0) []; stage = 3 }
behind_header p header.Turns words = record p { turns = value_at words 0; stage = 4 }
behind_header p header.Thread words = record p { stage = 5; next = value_at words 0 + 1 }
behind_header p header.Order words = record p { order = p.order ++ filter_map (order_of p.built) words; stage = 6 }

-- the progress behind a line of this call, in the block of the last thread that came
abbrev pub behind_call : Progress → Call → Progress
behind_call p made = record p { threads = with_call (p.next - 1) made p.threads; calls = p.calls + 1 }

-- the progress behind a line with this first word and these words behind it
abbrev pub behind : Progress → FirstWord → List (List ℕ) → Progress
behind p (first.Header word) words = behind_header p word words
behind p (first.Call word) words = behind_call p (call_of word words)

-- the sizes of these frames and names and so many threads, with a number of calls and of births for each of sixteen
abbrev pub sizes_with : FrameSizes → NameCounts → ℕ → List ℕ → List ℕ → Sizes
sizes_with frames names threads calls births = record {
  small = frames.small;
  small_words = frames.small_words;
  large = frames.large;
  large_words = frames.large_words;
  extra = frames.extra;
  extra_words = frames.extra_words;
  globals = names.globals;
  stable = names.stable;
  weak = names.weak;
  back = names.back;
  threads = threads;
  calls = calls;
  births = births;
}

-- the sizes of these frames and names, which count the calls and births of these threads
abbrev pub sizes_of : FrameSizes → NameCounts → List (List Call) → Sizes
sizes_of frames names threads =
    sizes_with frames names (length threads) (counts_of length 16 threads) (counts_of births_among 16 threads)

-- the script that the lines give
abbrev pub script_of : Progress → Scripted
script_of p = record {
  sizes = sizes_of p.frames p.names p.threads;
  layouts = p.layouts;
  threads = p.threads;
  turns = p.turns;
  order = p.order;
}

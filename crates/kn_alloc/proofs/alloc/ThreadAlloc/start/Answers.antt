use Rattle.kn_alloc.specs.Keeps.{header_asked, words_of_request}
use Rattle.kn_alloc.proofs.Starts.{begun_gets, begun_kept, started}
use Rattle.kn_alloc.proofs.alloc.ThreadAlloc.start.Goals as goal

pub starts-requires-clause-classes : goal.starts-requires-clause-classes
starts-requires-clause-classes c = λ k hand h. (c.requires.agrees.2.hands k hand h).page_class

pub returns-clause-agrees : goal.returns-clause-agrees
returns-clause-agrees c = λ a here g began.
    started c.args.self.now a here g c.requires.resting (words_of_request c.args.request) (header_asked c.args.request) c.args.epoch began
    c.ranges.epoch.fits c.requires.words c.starts.new.self c.starts.ensures

pub returns-clause-gets : goal.returns-clause-gets
returns-clause-gets c = λ fits.
    begun_gets c.args.self.now (words_of_request c.args.request) (header_asked c.args.request) c.args.epoch c.starts.new.self c.starts.ensures fits

pub returns-clause-kept : goal.returns-clause-kept
returns-clause-kept c =
    begun_kept c.args.self.now (words_of_request c.args.request) (header_asked c.args.request) c.args.epoch c.starts.new.self c.starts.ensures

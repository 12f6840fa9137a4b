use Rattle.std.proofs.Common.{◌≡◌, refl, sym, ap, ◌∙◌, subst}
use Rattle.kn_base.specs.declared.frame_word.FrameWord.{FrameWord}
use Rattle.kn_base.specs.declared.kinds.FrameKind.TheVariants as frames
use Rattle.kn_base.specs.Words.{IsFrameWord, packed_frame}
use Rattle.kn_page.specs.PageViews.{page_view}
use Rattle.kn_rule.specs.Requests.{has_room, home_word, is_whole}
use Rattle.kn_alloc.specs.Keeps.{class_at}
use Rattle.kn_alloc.proofs.HomeWords.{home_fits, home_is}
use Rattle.kn_alloc.proofs.stage.Hand.home_word.Goals as goal

abbrev owned : (c : goal.After-word-1) → FrameWord
owned c = let hand = c.args.self.now in record { kind = frames.Owned; class = (page_view hand.page).class; stamp = hand.stamp; seat = 0 }

-- the word made is the one that the page says
word_is : (c : goal.After-word-1) → c.given_back-word.result
    ≡ home_word (page_view c.args.self.now.page).frame (owned c) (page_view c.args.self.now.page).free
word_is c =
    let page = page_view c.args.self.now.page in
    let kind = c.home_kind.result in
    let told = c.home_kind.ensures in
    c.given_back-word.ensures.word
    ∙ ((λ t. record { kind = kind; class = class_at kind (c.class.ensures t); stamp = c.args.self.now.stamp; seat = 0 })
    ∙ home_is page kind (record { empty = told.empty; ready = told.ready; used = told.used }) (owned c) refl)

pub pack-requires : goal.pack-requires
pack-requires c =
    let page = page_view c.args.self.now.page in
    subst IsFrameWord (sym (word_is c)) (home_fits (owned c) (is_whole page.frame page.free) (has_room page.class page.free) c.requires
    c.given_back-word.ensures.stamp)

pub returns : goal.returns
returns c = c.pack.ensures ∙ ap packed_frame (word_is c.before)

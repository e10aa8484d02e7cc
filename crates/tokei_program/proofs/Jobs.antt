-- The run of a command line, made of what was found for it.
use Rattle.std.proofs.Common.{◌≡◌, ℕ, List, Option, subst, sym}
use Rattle.tokei.specs.declared.job.Job.{Job}
use Rattle.tokei.specs.declared.job.Wanted.{Wanted}
use Rattle.tokei_cli.specs.CommandLines.{file_input_of, inputs_of}
use Rattle.tokei_cli.specs.declared.cli.Cli.{Cli}
use Rattle.tokei_config.specs.declared.config.Config.{Config}
use Rattle.tokei_folders.specs.Tree.{Tree}
use Rattle.tokei_languages.specs.declared.languages.Languages.{Languages}
use Rattle.tokei_options.specs.declared.number_format.NumberFormatStyle.{NumberFormatStyle}
use Rattle.tokei_options.specs.declared.sort.Sort.{Sort}
use Rattle.tokei_invocation.specs.declared.environment.Env.{Env}
use Rattle.tokei_program.specs.Choices.{Chooses}
use Rattle.tokei_invocation.specs.Earlier.{AreEarlier}
use Rattle.tokei_invocation.specs.Configs.{IsConfig}
use Rattle.tokei_program.specs.Jobs.{IsJob, IsJobOf}
use Rattle.tokei_invocation.specs.Roots.{AllStand}
use Rattle.tokei_table.specs.Row.{Row}

-- a run has what the command line chooses
pub is_chosen : (line : Cli) (wanted : Wanted) (sort : Option Sort) (style : NumberFormatStyle) (job : Job)
    → (job.wanted ≡ wanted) × (job.sort ≡ sort) × (job.numbers ≡ style) → Chooses line wanted sort style → Chooses line job.wanted job.sort job.numbers
is_chosen line wanted sort style job chosen chooses =
    subst (λ w. Chooses line w job.sort job.numbers) (sym chosen.0)
    (subst (λ s. Chooses line wanted s job.numbers) (sym chosen.1) (subst (λ n. Chooses line wanted sort n) (sym chosen.2) chooses))

-- a run is that of the command line
pub is_job_of : (rows : List Row) (line : Cli) (env : Env) (t : Tree) (input : Option (List ℕ)) (wanted : Wanted) (sort : Option Sort) (style : NumberFormatStyle)
    (config : Config) (earlier : Option Languages) (job : Job) → IsJob line job → (job.wanted ≡ wanted) × (job.sort ≡ sort) × (job.numbers ≡ style)
    → (job.config ≡ config) × (job.earlier ≡ earlier) → Chooses line wanted sort style → IsConfig rows line env t config
    → AreEarlier rows t input (file_input_of line) earlier → (roots : List (List ℕ)) → AllStand t roots → roots ≡ inputs_of line → IsJobOf rows line env t input job
is_job_of rows line env t input wanted sort style config earlier job members chosen found chooses is_config are_earlier roots stand are = record {
  members = members;
  chosen = is_chosen line wanted sort style job chosen chooses;
  config = subst (λ c. IsConfig rows line env t c) (sym found.0) is_config;
  earlier = subst (λ e. AreEarlier rows t input (file_input_of line) e) (sym found.1) are_earlier;
  roots = subst (λ rs. AllStand t rs) are stand;
}
